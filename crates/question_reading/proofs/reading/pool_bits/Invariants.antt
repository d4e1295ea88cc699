use Rattle.std.proofs.Common.{◌-◌, ◌≤◌}
use Rattle.question_reading.proofs.reading.pool_bits.Given as goal

abbrev pub invariant-loop-bits : goal.invariant-loop-bits
invariant-loop-bits l = (12 ≤ l.bits) × (l.bits ≤ 22)

abbrev pub decreases-loop-bits : goal.decreases-loop-bits
decreases-loop-bits l = 22 - l.bits
