use Rattle.std.proofs.Common.{FitsSigned, rules}
use Rattle.std.proofs.lemmas.Int.{to_z-of_z}
use Rattle.linear_forms.proofs.Meaning.{numeral_fits}
use Rattle.linear_forms.proofs.visiting.visit_difference.Goals as goal

pub numeral-requires : goal.numeral-requires
numeral-requires c =
    let h = rw c.in-One.is at c.in_ok-part.ensures.listed in λ low. c.requires.leaf c.in-One.first h.rest h.parts low

pub negated_numeral-requires : goal.negated_numeral-requires
negated_numeral-requires c =
    let fits : FitsSigned mir.Syntax.w128 c.in-Some.n = search rules in
    rw (to_z-of_z _ _ fits) (numeral_fits c.args.symbols.now c.leaves_differ.ensures.table c.in-One.first c.in-Some.n c.in-Some.ensures.1 fits)
