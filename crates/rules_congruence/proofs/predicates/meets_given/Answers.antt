use Rattle.std.proofs.Common.{◌↔◌, ◌∷◌, ◌++◌, [], List, IsTrue, refl}
use Rattle.rule_model.specs.Congruence.{Denies}
use Rattle.term_model.specs.Terms.{Term}
use Rattle.term_pool.specs.Views.{RefersTo, ReferToAll}
use Rattle.rules_congruence.specs.Predicates.{GivesOther}
use Rattle.rules_congruence.specs.Sides.{IsGiven}
use Rattle.term_parts.specs.Judging.{ReferToClauses}
use Rattle.rules_congruence.proofs.Literals.{front_terms}
use Rattle.rules_congruence.proofs.Options.{if_ok}
use Rattle.rules_congruence.proofs.PredicateLemmas.{gives_two, split_two, denies_two, denies_two_none, not_denying_two}
use Rattle.rules_congruence.proofs.TurningLemmas.{none_premised}
use Rattle.rules_congruence.proofs.predicates.meets_given.Goals as goal
use Rattle.term_parts.proofs.PartLemmas.{false_is}

pub returns-in_default-clause-met : goal.returns-in_default-clause-met
returns-in_default-clause-met c ps ts premises clause =
    false_is (not_denying_two c.args.symbols.now c.args.terms.now (GivesOther c.args.uses) (gives_two c.args.uses) c.args.premises.now c.args.clause.now ps ts c.in_default.ensures.other premises clause)

pub denied-requires : goal.denied-requires
denied-requires c =
    let before = front_terms c.args.symbols.now c.args.terms.now c.args.clause.now (c.in-Some.split.0.now ++ c.in-Some.split.1 ∷ []) c.in-Some.split.2 c.in-Some.ensures.split.1 c.requires.clause in
    (front_terms c.args.symbols.now c.args.terms.now (c.in-Some.split.0.now ++ c.in-Some.split.1 ∷ []) c.in-Some.split.0.now c.in-Some.split.1 refl before.0).0

pub returns-in_default-2-clause-met : goal.returns-in_default-2-clause-met
returns-in_default-2-clause-met c ps ts premises clause =
    let more = split_two c.args.symbols.now c.args.terms.now c.args.clause.now c.in-Some.split.0.now c.in-Some.split.1 c.in-Some.split.2 ts c.in-Some.ensures.split.1 clause in
    false_is (denies_two_none (GivesOther c.args.uses) (gives_two c.args.uses) ps ts more.before more.first more.second more.is ((rw c.in_default-2.is at c.in_ok-given.ensures.other) more.before more.before_zip))

pub gives_other-requires-clause-first : goal.gives_other-requires-clause-first
gives_other-requires-clause-first c =
    let before = front_terms c.args.symbols.now c.args.terms.now c.args.clause.now (c.in-Some.split.0.now ++ c.in-Some.split.1 ∷ []) c.in-Some.split.2 c.in-Some.ensures.split.1 c.requires.clause in
    rw c.denied.ensures.same (front_terms c.args.symbols.now c.args.terms.now (c.in-Some.split.0.now ++ c.in-Some.split.1 ∷ []) c.in-Some.split.0.now c.in-Some.split.1 refl before.0).1

pub gives_other-requires-clause-second : goal.gives_other-requires-clause-second
gives_other-requires-clause-second c =
    rw c.denied.ensures.same (front_terms c.args.symbols.now c.args.terms.now c.args.clause.now (c.in-Some.split.0.now ++ c.in-Some.split.1 ∷ []) c.in-Some.split.2 c.in-Some.ensures.split.1 c.requires.clause).1

pub returns-clause-met : goal.returns-clause-met
returns-clause-met c =
    if_ok (λ yes. (ps : List (List Term)) (t u : Term) → IsGiven c.args.symbols.now c.args.terms.now c.in-Some-2.given.pairs.items c.in-Some-2.given.only ps → RefersTo c.args.symbols.now c.args.terms.now c.in-Some.split.1 t → RefersTo c.args.symbols.now c.args.terms.now c.in-Some.split.2 u → IsTrue yes ↔ GivesOther c.args.uses ps (t ∷ u ∷ []))
    (λ yes. (ps : List (List Term)) (ts : List Term) → ReferToClauses c.args.symbols.now c.args.terms.now c.args.premises.now ps → ReferToAll c.args.symbols.now c.args.terms.now c.args.clause.now ts → IsTrue yes ↔ Denies (GivesOther c.args.uses) ps ts)
    c.gives_other.result
    (λ yes h ps ts premises clause.
    let more = split_two c.args.symbols.now c.args.terms.now c.args.clause.now c.in-Some.split.0.now c.in-Some.split.1 c.in-Some.split.2 ts c.in-Some.ensures.split.1 clause in
    denies_two c.args.symbols.now c.args.terms.now (GivesOther c.args.uses) (gives_two c.args.uses) c.in-Some-2.given.pairs.items ps ts more.before more.first more.second
    (none_premised c.args.symbols.now c.args.terms.now c.args.premises.now ps c.in-Some.ensures.split.0 premises) more.is ((rw c.in-Some-2.is at c.in_ok-given.ensures.denied) more.before more.before_zip)
    (λ qs given. h qs more.first more.second (rw (rw c.in-Some-2.is at c.in_ok-given.ensures.only) given) more.first_zip more.second_zip))
    (rw c.denied.ensures.same at c.gives_other.ensures.gives)
