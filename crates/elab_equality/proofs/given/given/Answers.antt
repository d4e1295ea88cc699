use Rattle.std.proofs.Common.{sym, subst}
use Rattle.term_parts.specs.Judging.{ReferToClauses}
use Rattle.rule_model.specs.Reading.{premise_clauses}
use Rattle.elab_equality.proofs.GivenLemmas.{given_found}
use Rattle.elab_equality.proofs.given.given.Goals as goal

pub returns-clause-given : goal.returns-clause-given
returns-clause-given c =
    let p = c.args.at.now in
    let s = p.symbols.now in
    let v = c.args.terms.now in
    let h = c.requires in
    given_found p v h c.table_of.result c.in_ok-sides.sides.items
    (c.in_ok-sides.ensures.sides (premise_clauses h.proof p.command)
    (subst (λ xs. ReferToClauses s v xs (premise_clauses h.proof p.command)) (sym c.deref.ensures.value)
    (c.in_ok-premise_clauses.ensures.stand s v h.proof h.stand)))
    (rw c.deref-2.ensures.value at c.table_of.ensures.table)
