-- What divides the two numbers that are left divides the first two.
use Rattle.std.proofs.Common.{ℕ}
use Rattle.std.specs.Int.{IsGcd}
use Rattle.coefficients.proofs.fractions.common_divisor.Given as goal

abbrev pub invariant-steps : goal.invariant-steps
invariant-steps l = (g : ℕ) → IsGcd l.x l.y g → IsGcd l.a l.b g

abbrev pub decreases-steps : goal.decreases-steps
decreases-steps l = l.y
