use Rattle.contexts.proofs.Visiting.{spot_cell}
use Rattle.contexts.proofs.putting.visit.Goals as goal

pub cell_parts-requires : goal.cell_parts-requires
cell_parts-requires c = spot_cell _ c.parts_of_trees.ensures _ _ (rw c.in-Term.is at c.requires.spot)
