-- Private. A table of symbols by which each term has one tree, as a law of `term_pool` says of each table.
use Rattle.std.proofs.Common.{◌≡◌}
use Rattle.pair_pool.specs.Trees.{Tree}
use Rattle.sym_table.specs.Table.{Table, IsTable}
use Rattle.term_model.specs.Terms.{Term}
use Rattle.term_pool.specs.StandsFor.{StandsFor}

pub record IsTreeTable (s : Table) : Type 0 where
  pub table : IsTable s
  pub one : (a b : Tree) (t : Term) → StandsFor s a t → StandsFor s b t → a ≡ b

pub one_tree : (s : Table) → IsTreeTable s → (t : Term) (a b : Tree) → StandsFor s a t → StandsFor s b t → a ≡ b
one_tree s h t a b first second = h.one a b t first second
