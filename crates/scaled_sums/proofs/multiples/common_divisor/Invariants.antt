-- What divides the two numbers that are left divides the first two.
use Rattle.std.proofs.Common.{ℕ}
use Rattle.scaled_sums.specs.Divisors.{IsGreatestDivisor}
use Rattle.scaled_sums.proofs.multiples.common_divisor.Given as goal

abbrev pub invariant-steps : goal.invariant-steps
invariant-steps l = (g : ℕ) → IsGreatestDivisor l.x l.y g → IsGreatestDivisor l.a l.b g

abbrev pub decreases-steps : goal.decreases-steps
decreases-steps l = l.y
