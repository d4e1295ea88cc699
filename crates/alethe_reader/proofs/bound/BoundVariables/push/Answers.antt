-- A name that is not bound is not in use.
use Rattle.alethe_reader.proofs.BoundLemmas.{among_unused}
use Rattle.alethe_reader.proofs.bound.BoundVariables.push.Goals as goal

pub push-requires-clause-unused : goal.push-requires-clause-unused
push-requires-clause-unused c = among_unused c.args.self.now.names.used c.args.name.now c.requires
