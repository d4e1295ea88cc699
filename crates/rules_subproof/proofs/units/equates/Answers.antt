use Rattle.std.proofs.Common.{IsTrue, subst, false}
use Rattle.term_pool.proofs.References.{refer_are_terms}
use Rattle.rule_model.specs.Reading.{clause_at}
use Rattle.rules_subproof.proofs.UnitClauses.{first_same, second_same, both_same}
use Rattle.rules_subproof.proofs.units.equates.Goals as goal

not_true : IsTrue false → ⊥
not_true e = cc

pub unit_sides-requires : goal.unit_sides-requires
unit_sides-requires c =
    rw c.clause.ensures
    (refer_are_terms c.args.symbols.now c.args.terms.now _ _ (c.terms_correspond.ensures.clause c.args.symbols.now c.args.terms.now c.args.proof.now _ c.args.j c.requires.stand.stand))

pub returns-in_default-clause-equates : goal.returns-in_default-clause-equates
returns-in_default-clause-equates c of t u stands l r = (
  λ e. absurd (not_true e),
  λ e. absurd
      ((rw c.clause.ensures at c.in_default.ensures.other) (clause_at of c.args.j) t u
      (c.terms_correspond.ensures.clause c.args.symbols.now c.args.terms.now c.args.proof.now of c.args.j stands) e),
)

pub returns-then-not-are_identical-clause-equates : goal.returns-then-not-are_identical-clause-equates
returns-then-not-are_identical-clause-equates c of t u stands l r =
    let unit = (rw c.clause.ensures at c.in-Some.ensures.sides) (clause_at of c.args.j) (c.terms_correspond.ensures.clause c.args.symbols.now c.args.terms.now c.args.proof.now of c.args.j stands) in (
      λ e. absurd (not_true e),
      λ e. absurd
          (not_true (subst IsTrue c.if-not-are_identical.true (c.are_identical.ensures.1
          (first_same c.args.symbols.now c.args.terms.now (λ p q a b g h. c.equal_exactly_where_terms_are.ensures c.args.symbols.now c.leaves_differ.ensures.table p q a b g h)
          c.in-Some.sides c.args.left c.args.right t u (clause_at of c.args.j) unit l r e)))),
    )

pub returns-clause-equates : goal.returns-clause-equates
returns-clause-equates c of t u stands l r =
    let unit = (rw c.clause.ensures at c.in-Some.ensures.sides) (clause_at of c.args.j) (c.terms_correspond.ensures.clause c.args.symbols.now c.args.terms.now c.args.proof.now of c.args.j stands) in (
      λ e. both_same c.args.symbols.now c.args.terms.now (λ p q a b g h. c.equal_exactly_where_terms_are.ensures c.args.symbols.now c.leaves_differ.ensures.table p q a b g h)
          c.in-Some.sides c.args.left c.args.right t u (clause_at of c.args.j) unit l r (c.are_identical.ensures.0 c.if-not-are_identical.false) (c.are_identical-2.ensures.0 e),
      λ e. c.are_identical-2.ensures.1
          (second_same c.args.symbols.now c.args.terms.now (λ p q a b g h. c.equal_exactly_where_terms_are.ensures c.args.symbols.now c.leaves_differ.ensures.table p q a b g h)
          c.in-Some.sides c.args.left c.args.right t u (clause_at of c.args.j) unit l r e),
    )
