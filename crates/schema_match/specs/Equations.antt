-- Public. Steps that state one equality, by the references of its sides.
use Rattle.std.specs.Prelude.{◌≡◌, ℕ, List, [], ◌∷◌}
use Rattle.sym_table.specs.Table.{Table}
use Rattle.term_model.specs.Flips.{equality}
use Rattle.term_model.specs.Terms.{Term}
use Rattle.term_pool.specs.Views.{TermsView, RefersTo}

-- there is no premise, and the one literal is the equality of these sides
pub record StatesEquality (s : Table) (v : TermsView) (p : ℕ × ℕ) (premises : List (List Term)) (clause : List Term) : Type 0 where
  pub left : Term
  pub right : Term
  pub left_refers : RefersTo s v p.0 left
  pub right_refers : RefersTo s v p.1 right
  pub none : premises ≡ []
  pub literal : clause ≡ equality left right ∷ []
