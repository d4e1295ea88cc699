-- Public. The list of the cells of arguments.
use Rattle.std.specs.Prelude.{ℕ, List, ◌∷◌}
use Rattle.pair_pool.specs.Trees.{Tree}
use Rattle.pair_pool.specs.Views.{Knows}
use Rattle.sym_table.specs.Table.{Table}
use Rattle.term_model.specs.Terms.{Term, terms_of}
use Rattle.term_pool.specs.StandsFor.{StandsForList}
use Rattle.term_pool.specs.Views.{TermsView}

-- r is known to be the list of these terms
pub record IsListOf (s : Table) (v : TermsView) (r : ℕ) (ts : List Term) : Type 0 where
  pub tree : Tree
  pub known : Knows v.pass r tree
  pub stands : StandsForList s tree (terms_of ts)

-- r is known to be a list of one term or more
pub record IsSomeList (v : TermsView) (r : ℕ) : Type 0 where
  pub symbols : Table
  pub first : Term
  pub others : List Term
  pub list : IsListOf symbols v r (first ∷ others)
