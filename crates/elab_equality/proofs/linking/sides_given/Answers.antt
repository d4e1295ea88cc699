use Rattle.std.proofs.Common.{arith, sym, subst}
use Rattle.term_parts.specs.Judging.{ReferToClauses}
use Rattle.rule_model.specs.Reading.{premise_clauses}
use Rattle.elab_equality.proofs.GivenLemmas.{premises_stand}
use Rattle.elab_equality.proofs.ReadingLemmas.{sides_few, sides_given_there}
use Rattle.elab_equality.proofs.linking.sides_given.Goals as goal

pub returns-clause-given : goal.returns-clause-given
returns-clause-given c =
    let p = c.args.at.now in
    let s = p.symbols.now in
    let v = c.args.terms.now in
    let h = c.requires in
    sides_given_there p v h c.in_ok-sides.sides.items (premises_stand p v h)
    (c.in_ok-sides.ensures.sides (premise_clauses h.proof p.command)
    (subst (λ xs. ReferToClauses s v xs (premise_clauses h.proof p.command)) (sym c.deref.ensures.value)
    (c.in_ok-premise_clauses.ensures.stand s v h.proof h.stand)))

pub returns-clause-few : goal.returns-clause-few
returns-clause-few c =
    let p = c.args.at.now in
    let s = p.symbols.now in
    let v = c.args.terms.now in
    let h = c.requires in
    let given = sides_given_there p v h c.in_ok-sides.sides.items (premises_stand p v h)
    (c.in_ok-sides.ensures.sides (premise_clauses h.proof p.command)
    (subst (λ xs. ReferToClauses s v xs (premise_clauses h.proof p.command)) (sym c.deref.ensures.value)
    (c.in_ok-premise_clauses.ensures.stand s v h.proof h.stand))) in
    let same = sides_few p v h c.in_ok-sides.sides.items given in
    let few = h.few_premises in
    omega (arith, few, same)
