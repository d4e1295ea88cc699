use Rattle.std.proofs.Common.{◌-◌}
use Rattle.rules_congruence.specs.Ways.{IsWayReached}
use Rattle.rules_congruence.proofs.ways.reaches.Given as goal

abbrev pub invariant-reached : goal.invariant-reached
invariant-reached l = IsWayReached l.links l.fn.from l.at l.reached.keys

abbrev pub decreases-reached : goal.decreases-reached
decreases-reached l = 18446744073709551616 - l.at
