use Rattle.std.proofs.Common.{◌∙◌, get_or, sym, subst, arith}
use Rattle.std.proofs.lemmas.List.{take_all}
use Rattle.term_pool.proofs.References.{refer_are_terms}
use Rattle.rule_model.specs.Reading.{clause_at}
use Rattle.rules_subproof.specs.Lets.{clauses_at}
use Rattle.rules_subproof.specs.SideTables.{TellsSides}
use Rattle.rules_subproof.proofs.SideTables.{clauses_next}
use Rattle.rules_subproof.proofs.sides.sides_of_premises.Goals as goal

pub add_premise-requires : goal.add_premise-requires
add_premise-requires c =
    rw (c.premises.invariant.0, c.clause.ensures)
    (refer_are_terms c.args.symbols.now c.args.terms.now _ _ (c.terms_correspond.ensures.clause c.args.symbols.now c.args.terms.now c.args.proof.now _ _ c.requires.stand.stand))

pub premises-preserved : goal.premises-preserved
premises-preserved c = (
  c.add_premise.ensures.same ∙ c.premises.invariant.0,
  λ of stands.
      let j = get_or c.args.premises.now c.premises.premise-index 0 in
      let added = rw (c.premises.invariant.0, c.clause.ensures) at c.in_ok-add_premise.ensures.added in
      subst (TellsSides c.args.symbols.now c.args.terms.now _) (sym (clauses_next of c.args.premises.now c.premises.premise-index c.premises-test.true))
      (added _ (clause_at of j) (c.terms_correspond.ensures.clause c.args.symbols.now c.args.terms.now c.args.proof.now of j stands) (c.premises.invariant.1 of stands)),
)

pub returns-clause-told : goal.returns-clause-told
returns-clause-told c of stands =
    let past = c.premises-test.false in
    subst (λ js. TellsSides c.args.symbols.now c.args.terms.now c.premises.table.keys (clauses_at of js))
    (take_all c.premises.premise-index c.args.premises.now (omega arith)) (c.premises.invariant.1 of stands)
