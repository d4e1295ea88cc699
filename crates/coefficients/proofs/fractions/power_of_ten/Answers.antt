-- A power that is too wide already.
use Rattle.std.proofs.Common.{◌^◌, sym, subst}
use Rattle.coefficients.specs.Fractions.{IsNarrowNumber}
use Rattle.coefficients.proofs.LowestTerms.{wide_power}
use Rattle.coefficients.proofs.fractions.power_of_ten.Goals as goal

pub returns-in_err-power : goal.returns-in_err-power
returns-in_err-power c =
    subst (λ o. IsNarrowNumber o (10 ^ c.args.exponent)) (sym c.from_residual.ensures)
    (wide_power (2 ^ 127) c.powers.power c.powers.k c.args.exponent c.powers.invariant.same c.powers-test.true c.in_err-power.ensures)
