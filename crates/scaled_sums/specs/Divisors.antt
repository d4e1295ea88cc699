-- Private. Greatest common divisors.
use Rattle.std.specs.Prelude.{ℕ, ◌*◌}
use Rattle.rule_model.specs.Arith.{Divides}

-- A common divisor that is divided by all others. This is said of their multiples too: where d divides the same multiple of
-- both numbers, it divides that multiple of their divisor.
pub record IsGreatestDivisor (a b g : ℕ) : Type 0 where
  pub first : Divides g a
  pub second : Divides g b
  pub greatest : (d m : ℕ) → Divides d (a * m) → Divides d (b * m) → Divides d (g * m)
