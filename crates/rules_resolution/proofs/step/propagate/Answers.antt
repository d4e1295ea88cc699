use Rattle.std.proofs.lemmas.Result.{IfOk-weaker}
use Rattle.rule_model.specs.Reading.{clause_at, premise_clauses}
use Rattle.term_parts.proofs.Options.{if_some, if_none}
use Rattle.term_pool.proofs.References.{refer_are_terms}
use Rattle.rules_resolution.proofs.step.propagate.Goals as goal

pub find_trail-requires-clause-premises : goal.find_trail-requires-clause-premises
find_trail-requires-clause-premises c =
    rw c.deref.ensures.value
    (c.in_ok-premise_clauses.ensures.terms c.args.symbols.now c.args.terms.now c.requires.stand.proof c.requires.stand.stand)

pub find_trail-requires-clause-clause : goal.find_trail-requires-clause-clause
find_trail-requires-clause-clause c =
    rw c.clause.ensures
    (refer_are_terms c.args.symbols.now c.args.terms.now _ _
    (c.terms_correspond.ensures.clause c.args.symbols.now c.args.terms.now c.args.proof.now c.requires.stand.proof c.args.i c.requires.stand.stand))

pub find_trail-requires-clause-short : goal.find_trail-requires-clause-short
find_trail-requires-clause-short c =
    rw c.deref.ensures.value
    (c.premises_are_short.ensures c.args.proof.now c.args.i _ c.requires.short c.in_ok-premise_clauses.ensures.clauses)

pub returns-clause-shown : goal.returns-clause-shown
returns-clause-shown c =
    let s = c.args.symbols.now in
    let v = c.args.terms.now in
    let refs = c.args.proof.now in
    let i = c.args.i in
    IfOk-weaker c.find_trail.result _ _
    (λ found. if_some _ _ found
    (λ trail shows of stand. shows (premise_clauses of i) (clause_at of i) (rw c.deref.ensures.value (c.in_ok-premise_clauses.ensures.stand s v of stand))
    (rw c.clause.ensures (c.terms_correspond.ensures.clause s v refs of i stand))))
    c.find_trail.ensures.shown

pub returns-clause-none : goal.returns-clause-none
returns-clause-none c =
    let s = c.args.symbols.now in
    let v = c.args.terms.now in
    let refs = c.args.proof.now in
    let i = c.args.i in
    IfOk-weaker c.find_trail.result _ _
    (λ found. if_none found
    (λ none of stand. none (premise_clauses of i) (clause_at of i) (rw c.deref.ensures.value (c.in_ok-premise_clauses.ensures.stand s v of stand))
    (rw c.clause.ensures (c.terms_correspond.ensures.clause s v refs of i stand))))
    c.find_trail.ensures.none
