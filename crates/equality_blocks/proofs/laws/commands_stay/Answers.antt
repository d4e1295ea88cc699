use Rattle.equality_blocks.proofs.Growing.{few_more, made_more, paired_more, placed_more}
use Rattle.equality_blocks.proofs.StayLemmas.{block_for_later, cell_later, closing_block_later, command_later, made_steps_later}
use Rattle.equality_blocks.proofs.laws.commands_stay.Goals as goal

pub returns-clause-command : goal.returns-clause-command
returns-clause-command c p v w keeps one h = command_later p v w keeps one h

pub returns-clause-made : goal.returns-clause-made
returns-clause-made c p v w t keeps h = made_more p v w keeps.pass.grows t h

pub returns-clause-placed : goal.returns-clause-placed
returns-clause-placed c p v w t keeps h = placed_more p v w keeps.pass.grows t h

pub returns-clause-paired : goal.returns-clause-paired
returns-clause-paired c p v w t u keeps h = paired_more p v w keeps.pass.grows t u h

pub returns-clause-steps : goal.returns-clause-steps
returns-clause-steps c p v w steps keeps h = made_steps_later p v w keeps steps h

pub returns-clause-cells : goal.returns-clause-cells
returns-clause-cells c p v w r keeps h = cell_later p v w keeps r h

pub returns-clause-few : goal.returns-clause-few
returns-clause-few c p v w n keeps h = few_more p v w keeps.pass.grows n h

pub returns-clause-block : goal.returns-clause-block
returns-clause-block c p v w block keeps one h = block_for_later p v w keeps one block h

pub returns-clause-closing : goal.returns-clause-closing
returns-clause-closing c p v w block keeps one h = closing_block_later p v w keeps one block h
