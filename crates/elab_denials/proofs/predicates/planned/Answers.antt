use Rattle.std.proofs.Common.{inr}
use Rattle.rule_model.specs.Reading.{clause_at, premise_clauses}
use Rattle.elab_denials.proofs.CongruentLemmas.{own_clause}
use Rattle.elab_denials.proofs.PredicateLemmas.{gives_other, predicates_met}
use Rattle.elab_denials.proofs.predicates.planned.Goals as goal

pub implied_either-requires-clause-implies : goal.implied_either-requires-clause-implies
implied_either-requires-clause-implies c =
    let p = c.args.at.now in
    let v = c.args.terms.now in
    let h = c.requires.job in
    rw (c.in_ok-found.ensures.same, c.in_ok-table.ensures.same) (gives_other p v (premise_clauses h.proof p.command) (clause_at h.proof p.command) (own_clause p v h) (predicates_met p v h c.requires.rule)
    ((rw (c.in_ok-table.ensures.same, c.in_default.is) at c.in_ok-found.ensures.none) (premise_clauses h.proof p.command) (clause_at h.proof p.command) (own_clause p v h)))

pub equated-requires-clause-rule : goal.equated-requires-clause-rule
equated-requires-clause-rule c = inr c.requires.rule
