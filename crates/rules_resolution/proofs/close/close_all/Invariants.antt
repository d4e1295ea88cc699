use Rattle.std.proofs.Common.{◌-◌, ◌≤◌, length, take}
use Rattle.rules_resolution.specs.Standing.{Advances, Closes}
use Rattle.rules_resolution.proofs.close.close_all.Given as goal

abbrev pub invariant-loop-at : goal.invariant-loop-at
invariant-loop-at l =
    Closes l.atom l.negative (take l.at l.table) l.initial.standings.items l.standings.items
    × Advances l.initial.standings.items l.standings.items l.initial.ready.items l.ready.items
    × (l.first ≤ l.at)
    × (l.at ≤ length l.table)

abbrev pub decreases-loop-at : goal.decreases-loop-at
decreases-loop-at l = length l.table - l.at
