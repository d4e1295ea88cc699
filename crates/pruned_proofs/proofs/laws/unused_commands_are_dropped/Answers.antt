-- Command by command.
use Rattle.pruned_proofs.proofs.Examples.{example_reached}
use Rattle.pruned_proofs.proofs.laws.unused_commands_are_dropped.Goals as goal

pub returns-clause-reached : goal.returns-clause-reached
returns-clause-reached c = example_reached
