-- Public. Terms of a proof: where they stand, and what they are read as.
use Rattle.std.specs.Prelude.{List, [], ◌∷◌, map, reverse}
use Rattle.sexpr.specs.declared.causes.Cause.TheVariants.{SortMismatch}
use Rattle.sexpr.specs.Items.{Item, Items, no_items, item, place_of}
use Rattle.term_model.specs.declared.symbols.Sort.{Sort}
use Rattle.term_model.specs.Terms.{Var, sort_eq, Term}
use Rattle.rule_model.specs.Scopes.{Nesting}
use Rattle.rule_model.specs.Visibility.{open_bindings}
use Rattle.problem_text.specs.Limits.{Settings}
use Rattle.problem_text.specs.Names.{Bound, Place, itself}
use Rattle.problem_text.specs.Terms.{read_term}
use Rattle.problem_text.specs.TypedTerms.{Typed}
use Rattle.alethe_text.specs.States.{ProofSettings, Reading, ◌>>=◌, give, demand, in_script}

-- in a scope the variables of the open anchors stand for themselves, those of the innermost one first
abbrev pub variables_in : Nesting Var Term → List Bound
variables_in nesting = map (λ b. itself b.0) (reverse (open_bindings nesting))

abbrev pub term_settings : ProofSettings → Settings
term_settings settings = record { replaces_lets = settings.replaces_lets; limit = settings.limit }

abbrev pub place_in : ProofSettings → Nesting Var Term → Place
place_in settings nesting = record { scope = variables_in nesting; settings = term_settings settings }

-- an item in a term's place, in a scope
unfoldable pub term_in : ProofSettings → Nesting Var Term → Item → Reading Typed
term_in settings nesting i = in_script (λ s. read_term i (place_in settings nesting) s)

-- a formula is a term of the sort Bool
unfoldable pub formula_in : ProofSettings → Nesting Var Term → Item → Reading Term
formula_in settings nesting i = do
  t ← term_in settings nesting i
  _ ← demand (sort_eq t.sort Sort.Bool) SortMismatch (place_of i)
  give t.tree

unfoldable pub formulas_in : ProofSettings → Nesting Var Term → Items → Reading (List Term)
formulas_in settings nesting no_items = give []
formulas_in settings nesting (item i rest) = do
  t ← formula_in settings nesting i
  ts ← formulas_in settings nesting rest
  give (t ∷ ts)
