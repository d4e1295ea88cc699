-- The least common multiple, by the greatest common divisor.
use Rattle.std.proofs.Common.{◌/◌, ◌*◌}
use Rattle.scaled_sums.proofs.Divisors.{multiple_with_one, multiple_by_divisor, checked_some, checked_none}
use Rattle.scaled_sums.proofs.multiples.common_multiple.Goals as goal

pub returns-then-b-eq1-clause-some : goal.returns-then-b-eq1-clause-some
returns-then-b-eq1-clause-some c = multiple_with_one c.args.a c.args.b c.requires.first c.if-b-eq1.true

pub returns-clause-some : goal.returns-clause-some
returns-clause-some c =
    checked_some _ c.args.a c.args.b (c.args.a / c.common_divisor-divisor.result * c.args.b) c.checked_mul.ensures
    (multiple_by_divisor c.args.a c.args.b c.common_divisor-divisor.result c.requires.first c.requires.second c.common_divisor-divisor.ensures)

pub returns-clause-wide : goal.returns-clause-wide
returns-clause-wide c =
    checked_none _ c.args.a c.args.b (c.args.a / c.common_divisor-divisor.result * c.args.b) c.checked_mul.ensures
    (multiple_by_divisor c.args.a c.args.b c.common_divisor-divisor.result c.requires.first c.requires.second c.common_divisor-divisor.ensures)
