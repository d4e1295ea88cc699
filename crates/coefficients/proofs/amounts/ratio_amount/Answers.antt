-- A ratio is an amount, where its second number is not 0.
use Rattle.std.proofs.Common.{◌∙◌, sym}
use Rattle.coefficients.proofs.AmountLemmas.{ratio_is}
use Rattle.coefficients.proofs.amounts.ratio_amount.Goals as goal

pub returns : goal.returns
returns c =
    ratio_is c.args.place c.args.word.now c.position_of-slash.result c.behind-below.result.now c.ratio_parts-parts.result c.position_of-slash.ensures.value c.behind-below.ensures (sym c.is_zero.ensures ∙ c.if-is_zero.false) c.ratio_parts-parts.ensures
