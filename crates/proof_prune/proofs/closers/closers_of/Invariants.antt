use Rattle.proof_prune.specs.Closers.{AreClosersTo}
use Rattle.proof_prune.proofs.closers.closers_of.Given as goal

abbrev pub invariant-commands : goal.invariant-commands
invariant-commands l = AreClosersTo l.proof l.i l.closers.items
