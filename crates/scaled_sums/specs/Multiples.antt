-- Public. Least common multiples.
use Rattle.std.specs.Prelude.{ℕ, ◌<◌}
use Rattle.rule_model.specs.Arith.{Divides}

-- the least multiple of two numbers, which divides each other one
pub record IsLeastMultipleOf (a b n : ℕ) : Type 0 where
  pub over : 0 < n
  pub first : Divides a n
  pub second : Divides b n
  pub least : (m : ℕ) → Divides a m → Divides b m → Divides n m
