-- What is too wide on the way is too wide in the end.
use Rattle.std.proofs.Common.{◌^◌, ◌≤◌, ◌<◌, ◌∙◌, refl, subst}
use Rattle.coefficients.proofs.FigureValues.{before_least, after_least, wide_on, wide_product, joined, none_num}
use Rattle.coefficients.proofs.LowestTerms.{narrow_pair}
use Rattle.coefficients.proofs.figures.parts.Goals as goal

pub returns-in_err-whole : goal.returns-in_err-whole
returns-in_err-whole c =
    none_num _ _ _ c.from_residual-in_err-whole.ensures (wide_on (2 ^ 127) _ _ c.in_err-whole.ensures (before_least c.args.before.now c.args.after.now))

pub returns-in_err-rest : goal.returns-in_err-rest
returns-in_err-rest c =
    none_num _ _ _ c.from_residual-in_err-rest.ensures (wide_on (2 ^ 127) _ _ c.in_err-rest.ensures (after_least c.args.before.now c.args.after.now))

pub returns-in_err-above : goal.returns-in_err-above
returns-in_err-above c =
    none_num _ _ _ c.from_residual-in_err-above.ensures
    (wide_product (2 ^ 127) c.in_ok-whole.whole c.in_ok-den.den c.args.before.now c.args.after.now c.in_ok-whole.ensures.0 c.in_ok-den.ensures.0 c.in_err-above.ensures)

pub returns-in_err-num : goal.returns-in_err-num
returns-in_err-num c =
    none_num _ _ _ c.from_residual-in_err-num.ensures (subst (λ n. 2 ^ 127 ≤ n)
    (joined c.in_ok-whole.whole c.in_ok-den.den c.in_ok-above.above c.in_ok-rest.rest c.args.before.now c.args.after.now c.in_ok-whole.ensures.0 c.in_ok-den.ensures.0 c.in_ok-above.ensures.0 c.in_ok-rest.ensures.0)
    c.in_err-num.ensures)

pub returns : goal.returns
returns c =
    let e = joined c.in_ok-whole.whole c.in_ok-den.den c.in_ok-above.above c.in_ok-rest.rest c.args.before.now c.args.after.now c.in_ok-whole.ensures.0 c.in_ok-den.ensures.0 c.in_ok-above.ensures.0 c.in_ok-rest.ensures.0 in
    narrow_pair _ _ _ _ refl (c.in_ok-num.ensures.0 ∙ e, subst (λ n. n < 2 ^ 127) e c.in_ok-num.ensures.1) c.in_ok-den.ensures
