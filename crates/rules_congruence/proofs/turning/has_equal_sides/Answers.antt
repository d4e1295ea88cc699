use Rattle.rules_congruence.proofs.TurningLemmas.{equal_sides_by, iff_trans}
use Rattle.rules_congruence.proofs.turning.has_equal_sides.Goals as goal
use Rattle.term_parts.proofs.PartLemmas.{false_is}

pub returns-in_default-clause-equal : goal.returns-in_default-clause-equal
returns-in_default-clause-equal c t refers =
    false_is (λ h. c.in_default.ensures.other t h.side h.side refers h.is)

pub returns-clause-equal : goal.returns-clause-equal
returns-clause-equal c t refers =
    iff_trans c.same.ensures
    (equal_sides_by c.args.symbols.now c.args.terms.now (c.equal_exactly_where_terms_are.ensures c.args.symbols.now c.leaves_differ.ensures.table)
    c.in-Some.sides t (c.in-Some.ensures.sides t refers))
