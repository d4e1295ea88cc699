-- The coefficients so far.
use Rattle.std.proofs.Common.{◌≡◌, ◌≤◌, ◌<◌, ℕ, pos, length, get_or, slice_get, Some, unsigned_abs}
use Rattle.linear_forms.specs.Coefficients.{sum_at}
use Rattle.lia_rows.proofs.columns.coefs_of.Given as goal

abbrev pub invariant-columns : goal.invariant-columns
invariant-columns l = record {
  size : length l.coefs ≡ 4;
  right : (k r : ℕ) → k < l.column → slice_get l.columns k ≡ Some r → get_or l.coefs k (pos 0) ≡ sum_at l.found r;
  beyond : (k : ℕ) → l.column ≤ k → k < 4 → get_or l.coefs k (pos 0) ≡ pos 0;
  narrow : (k : ℕ) → k < 4 → unsigned_abs (get_or l.coefs k (pos 0)) ≤ 64;
}
