use Rattle.alethe_text.proofs.PrintedProofs.{assume_leads, step_leads, anchor_leads, text_led}
use Rattle.alethe_text.proofs.laws.printed_commands_are_read_back.Goals as goal

pub returns-clause-assumes : goal.returns-clause-assumes
returns-clause-assumes c = assume_leads

pub returns-clause-steps : goal.returns-clause-steps
returns-clause-steps c = step_leads

pub returns-clause-anchors : goal.returns-clause-anchors
returns-clause-anchors c = anchor_leads

pub returns-clause-texts : goal.returns-clause-texts
returns-clause-texts c = text_led
