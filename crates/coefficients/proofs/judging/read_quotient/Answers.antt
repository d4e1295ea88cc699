-- The figures, and then their quotient.
use Rattle.std.proofs.Common.{◌∙◌}
use Rattle.coefficients.proofs.QuotientReading.{figure_pair, over_figure, narrow_some, quotient_read}
use Rattle.coefficients.proofs.judging.read_quotient.Goals as goal

pub quotient-requires-clause-above : goal.quotient-requires-clause-above
quotient-requires-clause-above c =
    let (f, is) = c.requires.num in
    over_figure f c.in_ok-above.above (figure_pair c.args.num.place c.args.num f c.in_ok-above.above is c.in_ok-above.ensures)

pub quotient-requires-clause-below : goal.quotient-requires-clause-below
quotient-requires-clause-below c =
    let (f, is) = c.requires.den in
    over_figure f c.in_ok-below.below (figure_pair c.args.den.place c.args.den f c.in_ok-below.below is c.in_ok-below.ensures)

pub read_pair-requires : goal.read_pair-requires
read_pair-requires c = narrow_some c.quotient.result _ c.quotient.ensures

pub returns : goal.returns
returns c = λ f g is js.
    c.read_pair.ensures
    ∙ quotient_read c.args.negative c.args.place f g c.in_ok-above.above c.in_ok-below.below
    (figure_pair c.args.num.place c.args.num f c.in_ok-above.above is c.in_ok-above.ensures)
    (figure_pair c.args.den.place c.args.den g c.in_ok-below.below js c.in_ok-below.ensures) c.quotient.result c.quotient.ensures
