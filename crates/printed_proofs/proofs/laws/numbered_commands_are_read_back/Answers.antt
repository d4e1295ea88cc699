use Rattle.printed_proofs.proofs.NumberedCommands.{assume_printed, step_printed, closing_printed, anchor_printed}
use Rattle.printed_proofs.proofs.laws.numbered_commands_are_read_back.Goals as goal

pub returns-clause-assumes : goal.returns-clause-assumes
returns-clause-assumes c = assume_printed

pub returns-clause-steps : goal.returns-clause-steps
returns-clause-steps c = step_printed

pub returns-clause-closings : goal.returns-clause-closings
returns-clause-closings c = closing_printed

pub returns-clause-anchors : goal.returns-clause-anchors
returns-clause-anchors c = anchor_printed
