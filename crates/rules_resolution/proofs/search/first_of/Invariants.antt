use Rattle.std.proofs.Common.{ℕ, ◌<◌, ◌≤◌, ◌-◌, length, get_or}
use Rattle.rules_resolution.specs.declared.occurrence.Occurrence.{Occurrence}
use Rattle.rules_resolution.specs.Occurrence.{rank_of}
use Rattle.rules_resolution.proofs.search.first_of.Given as goal

-- the place is from `low` to `high`
abbrev pub invariant-loop-low : goal.invariant-loop-low
invariant-loop-low l =
    (l.low ≤ l.high)
    × (l.high ≤ length l.table)
    × ((k : ℕ) (d : Occurrence) → k < l.low → rank_of (get_or l.table k d) < l.rank)
    × ((k : ℕ) (d : Occurrence) → l.high ≤ k → k < length l.table → l.rank ≤ rank_of (get_or l.table k d))

abbrev pub decreases-loop-low : goal.decreases-loop-low
decreases-loop-low l = l.high - l.low
