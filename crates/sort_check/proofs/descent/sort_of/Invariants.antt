use Rattle.std.proofs.Common.{◌≡◌, ◌-◌, ◌^◌}
use Rattle.sort_check.proofs.Ways.{IsWay}
use Rattle.sort_check.proofs.descent.sort_of.Given as goal

abbrev pub invariant-down : goal.invariant-down
invariant-down l = (l.terms ≡ l.fn.terms) × IsWay l.symbols l.fn.terms l.fn.r l.at l.passed

abbrev pub decreases-down : goal.decreases-down
decreases-down l = 2 ^ 32 - l.passed
