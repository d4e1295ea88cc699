use Rattle.proof_prune.specs.Firsts.{AreNumbersTo}
use Rattle.proof_prune.proofs.used.numbers_of.Given as goal

abbrev pub invariant-marks : goal.invariant-marks
invariant-marks l = AreNumbersTo l.marks l.number l.numbers.items
