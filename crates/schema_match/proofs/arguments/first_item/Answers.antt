use Rattle.schema_match.proofs.ArgumentCells.{list_cell, first_refers, others_are}
use Rattle.schema_match.proofs.arguments.first_item.Goals as goal

pub cell_parts-requires : goal.cell_parts-requires
cell_parts-requires c = list_cell c.requires.symbols _ _ c.requires.first c.requires.others c.requires.list

pub returns-clause-item : goal.returns-clause-item
returns-clause-item c s t ts list = first_refers s _ _ _ t ts list c.cell_parts.ensures.first

pub returns-clause-rest : goal.returns-clause-rest
returns-clause-rest c s t ts list = others_are s _ _ _ t ts list c.cell_parts.ensures.second
