-- Private. The sides of a refl with the images of the open anchors' variables put in.
use Rattle.std.specs.Prelude.{◌≡◌, ◌⊎◌, ℕ}
use Rattle.proof_contexts.specs.OpenAnchors.{AreKept, scope_of}
use Rattle.proof_contexts.specs.declared.scopes.OpenScopes.{OpenScopes}
use Rattle.rule_model.specs.Reading.{scope_at}
use Rattle.term_model.specs.Terms.{Term}
use Rattle.term_pool.specs.Views.{TermsView, RefersTo}
use Rattle.equality_blocks.specs.Pairs.{AreEquated, IsPutIn}
use Rattle.equality_steps.specs.declared.site.Site.{Site}
use Rattle.elab_equality.specs.Walking.{IsClauseOfSides}
use Rattle.elab_equality.specs.declared.reflecting.Reflected.{Reflected}

-- the scope to which the command belongs was entered last
pub record IsInScope (p : Site) (v : TermsView) (x : OpenScopes) : Type 0 where
  pub kept : AreKept p.symbols.now v p.proof.now x
  pub here : scope_of x ≡ scope_at p.proof.now p.command

-- the reference stands for a side of the clause
pub record IsSideOfClause (p : Site) (v : TermsView) (r : ℕ) : Type 0 where
  pub term : Term
  pub other : Term
  pub refers : RefersTo p.symbols.now v r term
  pub equated : AreEquated p v term other ⊎ AreEquated p v other term

-- the references stand for a side and for what it is with the images put in
pub record IsImageOf (p : Site) (v : TermsView) (r q : ℕ) : Type 0 where
  pub term : Term
  pub image : Term
  pub refers : RefersTo p.symbols.now v r term
  pub image_refers : RefersTo p.symbols.now v q image
  pub put_in : IsPutIn p v term image

pub record IsReflected (p : Site) (v : TermsView) (x : Reflected) : Type 0 where
  pub ends : IsClauseOfSides p v x.left x.right
  pub left_is : IsImageOf p v x.left x.left_image
  pub right_is : IsImageOf p v x.right x.right_image
