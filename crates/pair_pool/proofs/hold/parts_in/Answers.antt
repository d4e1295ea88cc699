use Rattle.pair_pool.proofs.PassLemmas.{listed_from_cell}
use Rattle.pair_pool.proofs.hold.parts_in.Goals as goal

pub returns-in-Words-clause-cell : goal.returns-in-Words-clause-cell
returns-in-Words-clause-cell c =
    rw c.in-Words.is (listed_from_cell _ _ _ _ (rw c.as_slice.ensures.value at c.cell_parts.ensures))
