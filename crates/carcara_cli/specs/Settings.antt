-- Private. What a command runs with.
use Rattle.std.specs.Prelude.{◌≤◌, ℕ}

-- the largest pool may have so many bits
pub record HasBits (bits : ℕ) : Type 0 where
  pub least : 12 ≤ bits
  pub most : bits ≤ 26
