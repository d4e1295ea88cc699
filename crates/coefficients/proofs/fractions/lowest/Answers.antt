-- The greatest common divisor is taken out.
use Rattle.std.proofs.Common.{refl}
use Rattle.coefficients.proofs.LowestTerms.{divided_is, whole_is, divisor_some}
use Rattle.coefficients.proofs.fractions.lowest.Goals as goal

pub nonzero_div-result : goal.nonzero_div-result
nonzero_div-result c = divisor_some c.args.p.num c.args.p.den c.common_divisor-divisor.result c.common_divisor-divisor.ensures c.requires

pub nonzero_div-result-2 : goal.nonzero_div-result-2
nonzero_div-result-2 c = divisor_some c.args.p.num c.args.p.den c.common_divisor-divisor.result c.common_divisor-divisor.ensures c.requires

pub returns : goal.returns
returns c = divided_is c.args.p.num c.args.p.den c.common_divisor-divisor.result _ c.common_divisor-divisor.ensures refl refl

pub returns-then-p-eq1 : goal.returns-then-p-eq1
returns-then-p-eq1 c = whole_is c.args.p c.if-p-eq1.true
