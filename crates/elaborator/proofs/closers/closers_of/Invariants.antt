use Rattle.elaborator.specs.Closers.{AreClosersTo}
use Rattle.elaborator.proofs.closers.closers_of.Given as goal

abbrev pub invariant-commands : goal.invariant-commands
invariant-commands l = AreClosersTo l.proof l.i l.closers.items
