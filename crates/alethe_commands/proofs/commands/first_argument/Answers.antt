-- The arguments are in the second item, or there are none.
use Rattle.alethe_commands.proofs.CommandsByNodes.{arguments_there, no_arguments_there}
use Rattle.alethe_commands.proofs.commands.first_argument.Goals as goal

pub returns-in-Some : goal.returns-in-Some
returns-in-Some c = arguments_there c.args.items.now c.args.rest c.in-Some.list (rw c.count.ensures at c.in-Some.ensures) c.requires

pub returns-in-None : goal.returns-in-None
returns-in-None c = rw c.count-in-None.ensures (no_arguments_there c.args.items.now c.args.rest (rw c.count.ensures at c.in-None.ensures) c.requires)
