use Rattle.std.proofs.Common.{◌≤◌}
use Rattle.rules_congruence.specs.Ways.{HasEndsTo}
use Rattle.rules_congruence.proofs.ways.add_ends.Given as goal

abbrev pub invariant-loop-place : goal.invariant-loop-place
invariant-loop-place l = (l.first ≤ l.place) × HasEndsTo l.links l.from l.first l.place l.fn.reached.keys l.reached.keys
