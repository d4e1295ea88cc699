use Rattle.rules_congruence.proofs.TurningLemmas.{no_turned_left, no_turned_right, are_turned_by, iff_trans}
use Rattle.rules_congruence.proofs.turning.are_turned.Goals as goal
use Rattle.term_parts.proofs.PartLemmas.{false_is}

pub returns-in_default-clause-turned : goal.returns-in_default-clause-turned
returns-in_default-clause-turned c t u old new =
    false_is (no_turned_left c.args.denied t u (λ x y. c.in_default.ensures.other t x y old))

pub returns-in_default-signed_sides-clause-turned : goal.returns-in_default-signed_sides-clause-turned
returns-in_default-signed_sides-clause-turned c t u old new =
    false_is (no_turned_right c.args.denied t u (λ x y. (rw c.signed_sides.ensures.same at c.in_default-signed_sides.ensures.other) u x y new))

pub returns-clause-turned : goal.returns-clause-turned
returns-clause-turned c t u old new =
    iff_trans c.crossed.ensures
    (are_turned_by c.args.symbols.now c.args.terms.now (c.equal_exactly_where_terms_are.ensures c.args.symbols.now c.leaves_differ.ensures.table)
    c.args.denied c.in-Some.sides c.in-Some-signed_sides.turned t u (c.in-Some.ensures.sides t old)
    ((rw c.signed_sides.ensures.same at c.in-Some-signed_sides.ensures.sides) u new))
