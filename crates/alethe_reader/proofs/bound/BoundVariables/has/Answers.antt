-- The name is one of those in use.
use Rattle.std.proofs.Common.{◌∙◌}
use Rattle.alethe_reader.proofs.BoundLemmas.{found_among}
use Rattle.alethe_reader.proofs.bound.BoundVariables.has.Goals as goal

pub returns : goal.returns
returns c = c.is_some.ensures ∙ found_among c.args.self.now.names.used c.args.name.now c.find.result c.find.ensures
