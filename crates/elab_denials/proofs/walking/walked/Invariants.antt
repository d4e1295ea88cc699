use Rattle.std.proofs.Common.{◌≡◌, ◌≤◌, length, drop}
use Rattle.equality_ways.specs.Ways.{IsWayOver}
use Rattle.elab_denials.specs.Walking.{IsTrailOver}
use Rattle.elab_denials.proofs.walking.walked.Given as goal

abbrev pub invariant-loop-place : goal.invariant-loop-place
invariant-loop-place l =
    (l.place ≤ length l.way) × (length l.trail.pairs.items ≡ l.place) × IsTrailOver l.sides (l.fn.ends.0, l.last) l.trail.refs.items l.trail.pairs.items
    × IsWayOver l.sides l.last l.fn.ends.1 (drop l.place l.way)
