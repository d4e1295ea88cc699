-- Public. A count of faults: a number that never falls, and that stops at the greatest number of 64 bits.
use Rattle.std.specs.Prelude.{ℕ, ◌+◌, ◌-◌, ◌^◌, ◌<◌, ◌≤◌, ◌↔◌, ◌⊎◌, min}

-- where a count stops
abbrev pub greatest_count : ℕ
greatest_count = 2 ^ 64 - 1

-- one more than a count, as far as a count goes
abbrev pub one_more : ℕ → ℕ
one_more count = min (count + 1) greatest_count

-- The count rose: there is at least one fault more, or the count stands where it stops, which counts as risen.
abbrev pub HasRisen : ℕ → ℕ → Type 0
HasRisen before after = one_more before ≤ after

-- A count that is greater has risen, one that stands where it stops has, and no other has.
abbrev pub RisesAsSaid : Type 0
RisesAsSaid = (before after : ℕ) → HasRisen before after ↔ ((before < after) ⊎ (greatest_count ≤ after))

-- A count that rose in a part of a run rose in the run.
abbrev pub StaysRisen : Type 0
StaysRisen = (first before after last : ℕ) → first ≤ before → HasRisen before after → after ≤ last → HasRisen first last
