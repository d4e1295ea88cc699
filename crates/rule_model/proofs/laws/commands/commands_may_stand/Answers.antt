-- By the item that the command ends.
use Rattle.rule_model.proofs.Standing.{command_may}
use Rattle.rule_model.proofs.laws.commands.commands_may_stand.Goals as goal

pub returns : goal.returns
returns c proof i l formed h = command_may proof i l formed h
