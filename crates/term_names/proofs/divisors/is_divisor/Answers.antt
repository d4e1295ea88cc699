-- By the number of the constant.
use Rattle.std.proofs.Common.{FitsSigned, rules, not, ap, ◌∙◌}
use Rattle.term_names.proofs.DivisorLemmas.{zero_word, constant_divides, no_constant}
use Rattle.term_names.proofs.divisors.is_divisor.Goals as goal

pub returns-in-Some-clause-divisor : goal.returns-in-Some-clause-divisor
returns-in-Some-clause-divisor c t refers =
    let fits : FitsSigned mir.Syntax.w128 c.in-Some.n = search rules in
    ap not (zero_word c.in-Some.n fits) ∙ constant_divides t c.in-Some.n (c.in-Some.ensures.constant t refers)

pub returns-in-None-clause-divisor : goal.returns-in-None-clause-divisor
returns-in-None-clause-divisor c t refers = no_constant t (c.in-None.ensures.constant t refers)
