use Rattle.std.proofs.Common.{◌↔◌, ◌∷◌, [], List, IsTrue, sym, subst}
use Rattle.rule_model.specs.Congruence.{Equates, IsWay}
use Rattle.term_model.specs.Terms.{Term}
use Rattle.term_pool.specs.Views.{RefersTo, ReferToAll}
use Rattle.rules_congruence.specs.Sides.{IsGiven}
use Rattle.term_parts.specs.Judging.{ReferToClauses}
use Rattle.rules_congruence.proofs.Options.{if_ok}
use Rattle.rules_congruence.proofs.TurningLemmas.{literal_term}
use Rattle.rules_congruence.proofs.transitivity.meets_trans.Goals as goal

pub returns-clause-met : goal.returns-clause-met
returns-clause-met c =
    if_ok (λ yes. (ps : List (List Term)) (t : Term) → IsGiven c.args.symbols.now c.args.terms.now c.in_ok-given.given.pairs.items c.in_ok-given.given.only ps → RefersTo c.args.symbols.now c.args.terms.now c.in-Some.literal t → IsTrue yes ↔ Equates (IsWay c.args.mode) ps (t ∷ []))
    (λ yes. (ps : List (List Term)) (ts : List Term) → ReferToClauses c.args.symbols.now c.args.terms.now c.args.premises.now ps → ReferToAll c.args.symbols.now c.args.terms.now c.args.clause.now ts → IsTrue yes ↔ Equates (IsWay c.args.mode) ps ts)
    c.equates.result
    (λ yes h ps ts premises clause.
    let here = literal_term c.args.symbols.now c.args.terms.now c.args.clause.now c.in-Some.literal ts c.in-Some.ensures.one clause in
    subst (λ us. IsTrue yes ↔ Equates (IsWay c.args.mode) ps us) (sym here.is) (h ps here.item (c.in_ok-given.ensures.given ps premises) here.zip))
    (rw c.premised.ensures.same at c.equates.ensures.equates)
