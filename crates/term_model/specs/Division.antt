-- Public. What a quotient and a remainder have to be. The laws compare `quotient` and `remainder` with this.
use Rattle.std.specs.Prelude.{◌≡◌, ℤ, pos, ◌+ℤ◌, ◌*ℤ◌, ◌≤ℤ◌, ◌<ℤ◌, unsigned_abs}

-- m = n * q + s and 0 ≤ s < |n| (the theory Ints)
pub record IsDivision (m n q s : ℤ) : Type 0 where
  pub whole : m ≡ n *ℤ q +ℤ s
  pub not_negative : pos 0 ≤ℤ s
  pub below : s <ℤ pos (unsigned_abs n)
