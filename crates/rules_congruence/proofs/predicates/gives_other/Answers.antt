use Rattle.std.proofs.Common.{◌↔◌, ◌∷◌, [], ◌∙◌, List, IsTrue, sym, refl}
use Rattle.rule_model.specs.Congruence.{Implies, AreCongruent}
use Rattle.term_model.specs.Terms.{Term}
use Rattle.term_pool.specs.Views.{RefersTo}
use Rattle.rules_congruence.specs.declared.uses.Uses.{Uses}
use Rattle.rules_congruence.specs.Predicates.{GivesOther}
use Rattle.rules_congruence.specs.Sides.{IsGiven}
use Rattle.rules_congruence.specs.Uses.{Together}
use Rattle.rules_congruence.proofs.Options.{if_ok}
use Rattle.rules_congruence.proofs.PredicateLemmas.{gives_first, gives_second, gives_none}
use Rattle.rules_congruence.proofs.predicates.gives_other.Goals as goal
use Rattle.term_parts.proofs.PartLemmas.{false_is}

pub returns-then-branch-clause-gives : goal.returns-then-branch-clause-gives
returns-then-branch-clause-gives c ps t u given first second =
    (λ e. gives_first c.args.uses ps (t ∷ u ∷ []) ((c.in_ok-implies.ensures.implies ps t u given first second).0 c.if-branch.true), λ h. refl)

pub returns-in-Any-clause-gives : goal.returns-in-Any-clause-gives
returns-in-Any-clause-gives c =
    let s = c.args.symbols.now in
    let v = c.args.terms.now in
    if_ok (λ yes. (ps : List (List Term)) (t u : Term) → IsGiven s v c.args.given.now.pairs.items c.args.given.now.only ps → RefersTo s v c.args.literals.1 t → RefersTo s v c.args.literals.0 u → IsTrue yes ↔ Implies (AreCongruent (Together Uses.Any)) ps (t ∷ u ∷ []))
    (λ yes. (ps : List (List Term)) (t u : Term) → IsGiven s v c.args.given.now.pairs.items c.args.given.now.only ps → RefersTo s v c.args.literals.0 t → RefersTo s v c.args.literals.1 u → IsTrue yes ↔ GivesOther c.args.uses ps (t ∷ u ∷ []))
    c.implies-in-Any.result
    (λ yes h ps t u given first second.
    let none : ¬ Implies (AreCongruent (Together c.args.uses)) ps (t ∷ u ∷ []) = λ given_first. let clash = sym c.if-branch.false ∙ (c.in_ok-implies.ensures.implies ps t u given first second).1 given_first in absurd cc in
    rw c.in-Any.is (gives_second yes ps t u (rw c.in-Any.is at none) (h ps u t given second first)))
    (rw (c.implies.ensures.same, c.in-Any.is) at c.implies-in-Any.ensures.implies)

pub returns-in_default-clause-gives : goal.returns-in_default-clause-gives
returns-in_default-clause-gives c ps t u given first second =
    false_is (gives_none c.args.uses ps (t ∷ u ∷ []) c.in_default.not-Any
    (λ h. let clash = sym c.if-branch.false ∙ (c.in_ok-implies.ensures.implies ps t u given first second).1 h in absurd cc))
