use Rattle.proof_prune.specs.Wanted.{AreWantedTo}
use Rattle.proof_prune.proofs.used.wanted.Given as goal

abbrev pub invariant-commands : goal.invariant-commands
invariant-commands l = AreWantedTo l.kept l.proof l.i l.list.items
