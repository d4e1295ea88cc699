-- The parts one after the other.
use Rattle.std.proofs.Common.{◌∙◌, sym, eqb-true}
use Rattle.coefficients.proofs.FigureValues.{zero_joined, some_before}
use Rattle.coefficients.proofs.figures.are_zero.Goals as goal

pub returns-then-is_zero : goal.returns-then-is_zero
returns-then-is_zero c = c.is_zero-then-is_zero.ensures ∙ zero_joined c.args.before.now c.args.after.now (eqb-true _ _ (sym c.is_zero.ensures ∙ c.if-is_zero.true))

pub returns : goal.returns
returns c = sym (some_before c.args.before.now c.args.after.now (sym c.is_zero.ensures ∙ c.if-is_zero.false))
