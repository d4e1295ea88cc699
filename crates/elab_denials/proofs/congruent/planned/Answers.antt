use Rattle.std.proofs.Common.{inl}
use Rattle.rule_model.specs.Reading.{clause_at, premise_clauses}
use Rattle.elab_denials.proofs.CongruentLemmas.{congruent_met, own_clause}
use Rattle.elab_denials.proofs.congruent.planned.Goals as goal

pub unreachable-requires : goal.unreachable-requires
unreachable-requires c =
    let p = c.args.at.now in
    let v = c.args.terms.now in
    let h = c.requires.job in
    (rw (c.in_ok-table.ensures.same, c.in_default.is) at c.in_ok-found.ensures.none) (premise_clauses h.proof p.command) (clause_at h.proof p.command) (own_clause p v h)
    (congruent_met p v h c.requires.rule)

pub equated-requires-clause-rule : goal.equated-requires-clause-rule
equated-requires-clause-rule c = inl c.requires.rule
