-- Public. How many distinct cells terms have.
use Rattle.std.specs.Prelude.{ℕ, List}
use Rattle.pair_pool.specs.Trees.{Tree}
use Rattle.sym_table.specs.Table.{Table, IsTable}
use Rattle.term_model.specs.Terms.{Term}
use Rattle.term_pool.specs.CellCounts.{CountsCells}
use Rattle.term_pool.specs.StandsFor.{StandForAll}

-- The terms have exactly n distinct cells. They are counted by a table of symbols, by which each term has one tree; by every table they
-- are as many (`cells_are_counted_once`).
pub record HasCells (terms : List Term) (n : ℕ) : Type 0 where
  pub table : Table
  pub is_table : IsTable table
  pub trees : List Tree
  pub stand : StandForAll table trees terms
  pub counts : CountsCells trees n
