-- Public. What the sort of a term is asked of.
use Rattle.std.specs.Prelude.{ℕ}
use Rattle.sym_table.specs.Table.{Table}
use Rattle.term_model.specs.Terms.{Term}
use Rattle.term_model.specs.Sorts.{IsWellSorted}
use Rattle.term_pool.specs.Views.{TermsView, RefersTo}

-- by the table, the reference r stands for a well-sorted term
pub record IsWellSortedTerm (s : Table) (v : TermsView) (r : ℕ) : Type 0 where
  pub means : Term
  pub refers : RefersTo s v r means
  pub sorted : IsWellSorted means
