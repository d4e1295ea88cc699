-- The name is nowhere, so the set has no place for it.
use Rattle.sym_table.proofs.Places.{position-lacks}
use Rattle.sym_table.proofs.names.add.Goals as goal

pub add-requires : goal.add-requires
add-requires c = position-lacks _ _ c.requires
