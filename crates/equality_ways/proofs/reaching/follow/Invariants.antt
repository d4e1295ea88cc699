use Rattle.std.proofs.Common.{◌≤◌}
use Rattle.equality_ways.specs.Reaching.{FollowsTo}
use Rattle.equality_ways.proofs.reaching.follow.Given as goal

abbrev pub invariant-loop-place : goal.invariant-loop-place
invariant-loop-place l =
    (l.first ≤ l.place) × FollowsTo l.entries l.at l.from l.first l.place l.fn.reached.keys.keys l.fn.reached.steps.items l.reached.keys.keys l.reached.steps.items
