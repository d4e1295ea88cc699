-- The first argument is told, where there is one.
use Rattle.alethe_commands.proofs.ArgumentsByNodes.{no_arguments, argument_fits, first_argument}
use Rattle.alethe_commands.proofs.arguments.next_argument.Goals as goal

pub returns-then-k-end : goal.returns-then-k-end
returns-then-k-end c = no_arguments c.args.items.now c.args.at.now c.args.end c.requires c.if-k-end.true

pub argument_at-requires-clause-fit : goal.argument_at-requires-clause-fit
argument_at-requires-clause-fit c = argument_fits c.args.items.now c.args.at.now c.args.end c.requires c.if-k-end.false c.node.result c.node.ensures

pub returns : goal.returns
returns c = first_argument c.args.items.now c.args.at.now c.args.end c.requires c.if-k-end.false c.node.result c.node.ensures c.argument_at.result c.argument_at.ensures
