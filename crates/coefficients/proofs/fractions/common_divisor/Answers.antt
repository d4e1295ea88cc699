-- A step of Euclid's algorithm keeps the common divisors, and the last one leaves the greatest.
use Rattle.std.proofs.lemmas.Nat.Gcd.{IsGcd-from_zero, IsGcd-from_mod}
use Rattle.coefficients.proofs.fractions.common_divisor.Goals as goal

pub steps-preserved : goal.steps-preserved
steps-preserved c = λ g h. c.steps.invariant g (IsGcd-from_mod c.steps.x c.steps.y g h)

pub returns : goal.returns
returns c = c.steps.invariant c.steps.x (IsGcd-from_zero c.steps.x c.steps.y c.steps-test.false)
