use Rattle.std.proofs.Common.{◌≤◌, ◌+◌, ◌-◌, ◌*◌, ◌^◌, arith, take, get_or}
use Rattle.std.proofs.lemmas.Int.{ints}
use Rattle.sexpr.specs.Words.{numeral_value}
use Rattle.text_items.proofs.NumeralValues.{wide_front, if_none}
use Rattle.text_items.proofs.numerals.numeral.Goals as goal

pub returns-in_err-value-clause-wide : goal.returns-in_err-value-clause-wide
returns-in_err-value-clause-wide c =
    let digits = c.args.digits.now in
    let k = c.digits.byte-index in
    let wide = c.in_err-value.ensures.wide in
    let value = c.digits.invariant.0 in
    let high : 2 ^ 127 ≤ 10 * numeral_value (take k digits) + (get_or digits k 0 - 48) = omega (arith, ints, wide, value) in
    if_none _ _ (wide_front digits k (2 ^ 127) c.digits-test.true high)
