-- Public. The variables that the open anchors bind: their names, and their images.
use Rattle.std.specs.Prelude.{◌≡◌, false, [], ◌++◌, map, ⊤}
use Rattle.std.specs.List.{AllByRecursion, AllZip}
use Rattle.term_model.specs.Terms.{Var, Term}
use Rattle.rule_model.specs.Contexts.{put_in_each, images}
use Rattle.rule_model.specs.Judged.{open_anchors}
use Rattle.rule_model.specs.Replacement.{Replacement}
use Rattle.rule_model.specs.Scopes.{Nesting, outermost, inside}
use Rattle.term_pool.specs.Bindings.{IsBindingOf}
use Rattle.problem_text.specs.Words.{is_among}
use Rattle.alethe_text.specs.Anchors.{bound_names}
use Rattle.alethe_reader.specs.declared.bound.BoundVariables.{BoundVariables}
use Rattle.term_expansion.specs.SymbolsAndTerms.{SymbolsAndTerms}

-- the images of the variables that the open anchors bind, those of the outermost one first
abbrev pub images_in : Nesting Var Term → Replacement
images_in outermost = []
images_in (inside around before anchor) = images_in around ++ put_in_each (images (open_anchors around)) anchor.bindings

-- no anchor binds a name that an anchor around it binds
abbrev pub BindApart : Nesting Var Term → Type 0
BindApart outermost = ⊤
BindApart (inside around before anchor) = BindApart around × AllByRecursion (λ b. is_among (bound_names around) b.0.name ≡ false) anchor.bindings

-- the names and the images are those of the open anchors
pub record AreAnchorsBound (w : SymbolsAndTerms) (b : BoundVariables) (nesting : Nesting Var Term) : Type 0 where
  pub names : map (λ u. u.id) b.names.used ≡ bound_names nesting
  pub images : AllZip (IsBindingOf w.symbols w.terms) b.images.items (images_in nesting)
  pub apart : BindApart nesting
