-- A step of Euclid's algorithm keeps the divisors, and the last one leaves the greatest.
use Rattle.scaled_sums.proofs.Divisors.{divisor_by_rest, divisor_at_end}
use Rattle.scaled_sums.proofs.multiples.common_divisor.Goals as goal

pub steps-preserved : goal.steps-preserved
steps-preserved c = λ g h. c.steps.invariant g (divisor_by_rest c.steps.x c.steps.y g h)

pub returns : goal.returns
returns c = c.steps.invariant c.steps.x (divisor_at_end c.steps.x c.steps.y c.steps-test.false)
