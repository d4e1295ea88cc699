-- Private. Fractions of natural numbers, as the code has them.
use Rattle.std.specs.Prelude.{◌≡◌, ◌⊎◌, ℕ, ◌^◌, ◌<◌, ◌≤◌, Option, Some, None}
use Rattle.coefficients.specs.declared.fractions.Pair.{Pair}

-- the number, unless it is too wide
abbrev pub IsNarrowNumber : Option ℕ → ℕ → Type 0
IsNarrowNumber (Some v) n = (v ≡ n) × (n < 2 ^ 127)
IsNarrowNumber None n = 2 ^ 127 ≤ n

pub record IsFractionPair (c : Pair) (p : ℕ × ℕ) : Type 0 where
  pub num : c.num ≡ p.0
  pub den : c.den ≡ p.1

-- the pair, unless one of its numbers is too wide
abbrev pub IsNarrowPair : Option Pair → ℕ × ℕ → Type 0
IsNarrowPair (Some c) p = IsFractionPair c p × (p.0 < 2 ^ 127) × (p.1 < 2 ^ 127)
IsNarrowPair None p = (2 ^ 127 ≤ p.0) ⊎ (2 ^ 127 ≤ p.1)
