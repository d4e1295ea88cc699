use Rattle.std.proofs.Common.{◌↔◌, ◌∷◌, [], List, IsTrue}
use Rattle.rule_model.specs.Congruence.{Implies, AreCongruent}
use Rattle.term_model.specs.Terms.{Term}
use Rattle.term_pool.specs.Views.{RefersTo}
use Rattle.rules_congruence.specs.Sides.{IsGiven}
use Rattle.rules_congruence.specs.Uses.{Together}
use Rattle.rules_congruence.proofs.Options.{if_ok}
use Rattle.rules_congruence.proofs.PredicateLemmas.{implies_both, implies_none}
use Rattle.rules_congruence.proofs.predicates.implies.Goals as goal
use Rattle.term_parts.proofs.PartLemmas.{false_is}

pub returns-in_default-clause-implies : goal.returns-in_default-clause-implies
returns-in_default-clause-implies c ps t u given first second =
    false_is (implies_none (AreCongruent (Together c.args.uses)) ps t u (λ a. c.in_default.ensures.other t a first))

pub are_congruent-requires-clause-left : goal.are_congruent-requires-clause-left
are_congruent-requires-clause-left c =
    let under = c.in-Some.ensures.under c.requires.first.means c.requires.first.refers in
    rw c.under_not.ensures.same (record { means = under.inner; refers = under.refers })

pub are_congruent-requires-clause-right : goal.are_congruent-requires-clause-right
are_congruent-requires-clause-right c = rw c.under_not.ensures.same c.requires.second

pub returns-clause-implies : goal.returns-clause-implies
returns-clause-implies c =
    let s = c.args.symbols.now in
    let v = c.args.terms.now in
    if_ok (λ yes. (ps : List (List Term)) (t u : Term) → IsGiven s v c.args.given.now.pairs.items c.args.given.now.only ps → RefersTo s v c.in-Some.inner t → RefersTo s v c.args.literals.1 u → IsTrue yes ↔ AreCongruent (Together c.args.uses) ps t u)
    (λ yes. (ps : List (List Term)) (t u : Term) → IsGiven s v c.args.given.now.pairs.items c.args.given.now.only ps → RefersTo s v c.args.literals.0 t → RefersTo s v c.args.literals.1 u → IsTrue yes ↔ Implies (AreCongruent (Together c.args.uses)) ps (t ∷ u ∷ []))
    c.are_congruent.result
    (λ yes h ps t u given first second.
    let under = c.in-Some.ensures.under t first in
    implies_both (AreCongruent (Together c.args.uses)) ps t under.inner u under.is (h ps under.inner u given under.refers second))
    (rw c.under_not.ensures.same at c.are_congruent.ensures.congruent)
