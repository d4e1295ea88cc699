-- What is common to each two parts is taken out, so that the products are in lowest terms.
use Rattle.std.proofs.Common.{◌*◌, sym, subst}
use Rattle.alethe_text.specs.Coefficients as text
use Rattle.coefficients.specs.Fractions.{IsNarrowPair}
use Rattle.coefficients.proofs.LowestTerms.{times_of, quotient_is, narrow_pair, wide_num, wide_den}
use Rattle.coefficients.proofs.fractions.quotient.Goals as goal

pub lowest-first-requires : goal.lowest-first-requires
lowest-first-requires c = (times_of c.args.below.den c.args.above.den c.lowest-bottoms.result c.requires.above c.lowest-bottoms.ensures).some

pub lowest-second-requires : goal.lowest-second-requires
lowest-second-requires c = (times_of c.args.above.num c.args.below.num c.lowest-tops.result c.requires.some c.lowest-tops.ensures).some

pub returns-in_err-num : goal.returns-in_err-num
returns-in_err-num c =
    subst (λ o. IsNarrowPair o (text.lowest (c.args.above.num * c.args.below.den, c.args.above.den * c.args.below.num))) (sym c.from_residual.ensures)
    (wide_num _ _ _ (quotient_is c.args.above c.args.below c.lowest-tops.result c.lowest-bottoms.result c.lowest-first.result c.lowest-second.result c.requires.above c.requires.some c.lowest-tops.ensures c.lowest-bottoms.ensures c.lowest-first.ensures c.lowest-second.ensures) c.in_err-num.ensures)

pub returns-in_err-den : goal.returns-in_err-den
returns-in_err-den c =
    subst (λ o. IsNarrowPair o (text.lowest (c.args.above.num * c.args.below.den, c.args.above.den * c.args.below.num))) (sym c.from_residual-in_err-den.ensures)
    (wide_den _ _ _ (quotient_is c.args.above c.args.below c.lowest-tops.result c.lowest-bottoms.result c.lowest-first.result c.lowest-second.result c.requires.above c.requires.some c.lowest-tops.ensures c.lowest-bottoms.ensures c.lowest-first.ensures c.lowest-second.ensures) c.in_err-den.ensures)

pub returns : goal.returns
returns c =
    narrow_pair _ _ _ _ (quotient_is c.args.above c.args.below c.lowest-tops.result c.lowest-bottoms.result c.lowest-first.result c.lowest-second.result c.requires.above c.requires.some c.lowest-tops.ensures c.lowest-bottoms.ensures c.lowest-first.ensures c.lowest-second.ensures)
    c.in_ok-num.ensures c.in_ok-den.ensures
