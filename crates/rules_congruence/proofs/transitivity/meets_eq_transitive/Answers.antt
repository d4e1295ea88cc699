use Rattle.std.proofs.Common.{◌↔◌, ◌∷◌, [], List, IsTrue}
use Rattle.rule_model.specs.Congruence.{Denies, Equates, IsWay}
use Rattle.term_model.specs.Terms.{Term}
use Rattle.term_pool.specs.Views.{RefersTo, ReferToAll}
use Rattle.rules_congruence.specs.Sides.{IsGiven}
use Rattle.term_parts.specs.Judging.{ReferToClauses}
use Rattle.rules_congruence.proofs.Literals.{equates_one, front_terms, split_refers, denies_both, denies_none, not_denying}
use Rattle.rules_congruence.proofs.Options.{if_ok}
use Rattle.rules_congruence.proofs.TurningLemmas.{none_premised}
use Rattle.rules_congruence.proofs.transitivity.meets_eq_transitive.Goals as goal
use Rattle.term_parts.proofs.PartLemmas.{false_is}

pub returns-in_default-clause-met : goal.returns-in_default-clause-met
returns-in_default-clause-met c ps ts premises clause =
    false_is (not_denying c.args.symbols.now c.args.terms.now (Equates (IsWay c.args.mode)) (equates_one (IsWay c.args.mode)) c.args.premises.now c.args.clause.now ps ts c.in_default.ensures.other premises clause)

pub denied-requires : goal.denied-requires
denied-requires c =
    (front_terms c.args.symbols.now c.args.terms.now c.args.clause.now c.in-Some.split.0.now c.in-Some.split.1 c.in-Some.ensures.split.1 c.requires.clause).0

pub returns-in_default-2-clause-met : goal.returns-in_default-2-clause-met
returns-in_default-2-clause-met c ps ts premises clause =
    let more = split_refers c.args.symbols.now c.args.terms.now c.args.clause.now c.in-Some.split.0.now c.in-Some.split.1 ts c.in-Some.ensures.split.1 clause in
    false_is (denies_none (Equates (IsWay c.args.mode)) (equates_one (IsWay c.args.mode)) ps ts more.front more.last more.is ((rw c.in_default-2.is at c.in_ok-given.ensures.other) more.front more.front_zip))

pub equates-requires : goal.equates-requires
equates-requires c =
    rw c.denied.ensures.same (front_terms c.args.symbols.now c.args.terms.now c.args.clause.now c.in-Some.split.0.now c.in-Some.split.1 c.in-Some.ensures.split.1 c.requires.clause).1

pub returns-clause-met : goal.returns-clause-met
returns-clause-met c =
    if_ok (λ yes. (ps : List (List Term)) (t : Term) → IsGiven c.args.symbols.now c.args.terms.now c.in-Some-2.given.pairs.items c.in-Some-2.given.only ps → RefersTo c.args.symbols.now c.args.terms.now c.in-Some.split.1 t → IsTrue yes ↔ Equates (IsWay c.args.mode) ps (t ∷ []))
    (λ yes. (ps : List (List Term)) (ts : List Term) → ReferToClauses c.args.symbols.now c.args.terms.now c.args.premises.now ps → ReferToAll c.args.symbols.now c.args.terms.now c.args.clause.now ts → IsTrue yes ↔ Denies (Equates (IsWay c.args.mode)) ps ts)
    c.equates.result
    (λ yes h ps ts premises clause.
    let more = split_refers c.args.symbols.now c.args.terms.now c.args.clause.now c.in-Some.split.0.now c.in-Some.split.1 ts c.in-Some.ensures.split.1 clause in
    denies_both c.args.symbols.now c.args.terms.now (Equates (IsWay c.args.mode)) (equates_one (IsWay c.args.mode)) c.in-Some-2.given.pairs.items ps ts more.front more.last
    (none_premised c.args.symbols.now c.args.terms.now c.args.premises.now ps c.in-Some.ensures.split.0 premises) more.is ((rw c.in-Some-2.is at c.in_ok-given.ensures.denied) more.front more.front_zip)
    (λ qs given. h qs more.last (rw (rw c.in-Some-2.is at c.in_ok-given.ensures.only) given) more.last_zip))
    (rw c.denied.ensures.same at c.equates.ensures.equates)
