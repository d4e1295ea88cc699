use Rattle.rules_clausal.proofs.OppositeLemmas.{negates_searched, negates_none}
use Rattle.rules_clausal.proofs.changes.negates_one.Goals as goal

pub returns-in-Some-clause-negates : goal.returns-in-Some-clause-negates
returns-in-Some-clause-negates c t refers =
    let s = c.args.symbols.now in
    negates_searched s c.args.terms.now (c.equal_exactly_where_terms_are.ensures s c.leaves_differ.ensures.table) c.args.sorted.now c.in-Some.negated t c.has.result
    (c.in-Some.ensures.under t refers) c.has.ensures

pub returns-in-None-clause-negates : goal.returns-in-None-clause-negates
returns-in-None-clause-negates c t refers =
    let s = c.args.symbols.now in
    negates_none s c.args.terms.now (c.equal_exactly_where_terms_are.ensures s c.leaves_differ.ensures.table) c.args.sorted.now t
    (λ u. c.in-None.ensures.other t u refers)
