use Rattle.rules_congruence.proofs.TailLemmas.{differences_cut, uncut_of_each}
use Rattle.rules_congruence.proofs.TogetherLemmas.{differing_by, each_by}
use Rattle.rules_congruence.proofs.TurningLemmas.{iff_trans}
use Rattle.rules_congruence.proofs.together.together.Goals as goal

pub returns-in-Any-clause-together : goal.returns-in-Any-clause-together
returns-in-Any-clause-together c = rw c.in-Any.is c.hang_by.ensures.together

pub returns-in-Differing-clause-together : goal.returns-in-Differing-clause-together
returns-in-Differing-clause-together c ps t u given a =
    let cut = differences_cut c.args.symbols.now c.args.terms.now c.args.uses c.args.both.now.left.items c.args.both.now.right.items a.ts a.us a.cut ps in
    rw c.in-Differing.is
    (iff_trans c.are_in_order.ensures
    (iff_trans
    (differing_by c.args.symbols.now c.args.terms.now (c.equal_exactly_where_terms_are.ensures c.args.symbols.now c.leaves_differ.ensures.table)
    c.args.given.now.pairs.items c.args.given.now.only ps c.args.both.now.left.items c.args.both.now.right.items a.cut.prefix a.cut.others given a.cut.left a.cut.right)
    cut))

pub returns-in-Each-clause-together : goal.returns-in-Each-clause-together
returns-in-Each-clause-together c ps t u given a =
    let whole = uncut_of_each c.args.symbols.now c.args.terms.now c.args.uses c.args.both.now.left.items c.args.both.now.right.items a.ts a.us a.cut c.in-Each.is in
    rw c.in-Each.is
    (iff_trans c.are_in_order-in-Each.ensures
    (each_by c.args.symbols.now c.args.terms.now (c.equal_exactly_where_terms_are.ensures c.args.symbols.now c.leaves_differ.ensures.table)
    c.args.given.now.pairs.items c.args.given.now.only ps c.args.both.now.left.items c.args.both.now.right.items a.ts a.us given whole.0 whole.1))
