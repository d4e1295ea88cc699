-- Public. How many cells the terms have that are read.
use Rattle.std.specs.Prelude.{◌≡◌, ℕ, ◌≤◌}
use Rattle.pair_pool.specs.Trees.{Tree}
use Rattle.sym_table.specs.Table.{Table, IsTable}
use Rattle.term_model.specs.Terms.{Term}
use Rattle.term_pool.specs.StandsFor.{StandsFor}
use Rattle.term_pool.specs.Trees.{IsPartOf, IsCellTree}

-- the tree is a cell of a term that is read
pub record IsCellOfRead (s : Table) (IsRead : Term → Type 0) (t : Tree) : Type 0 where
  pub whole : Term
  pub read : IsRead whole
  pub tree : Tree
  pub stands : StandsFor s tree whole
  pub part : IsPartOf t tree
  pub is_cell : IsCellTree t

-- The terms that are read have more than n distinct cells. They are counted by a table of symbols, by which each term has
-- one tree.
pub record HasMoreCells (IsRead : Term → Type 0) (n : ℕ) : Type 0 where
  pub table : Table
  pub is_table : IsTable table
  pub cells : ℕ → Tree
  pub are : (i : ℕ) → i ≤ n → IsCellOfRead table IsRead (cells i)
  pub apart : (i j : ℕ) → i ≤ n → j ≤ n → cells i ≡ cells j → i ≡ j
