-- No such byte stands before.
use Rattle.std.proofs.Common.{◌-◌, ◌≡◌, ℕ, ◌<◌, ◌≤◌, ◌==◌, length, get_or, false}
use Rattle.coefficients.proofs.figures.position_of.Given as goal

abbrev pub invariant-bytes : goal.invariant-bytes
invariant-bytes l = record { within : l.len ≤ length l.word; others : (k : ℕ) → k < l.len → (get_or l.word k 0 == l.byte) ≡ false }

abbrev pub decreases-bytes : goal.decreases-bytes
decreases-bytes l = length l.word - l.len
