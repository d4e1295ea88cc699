use Rattle.std.proofs.Common.{◌↔◌, ◌∷◌, [], List, IsTrue}
use Rattle.rule_model.specs.Congruence.{Equates, IsWay}
use Rattle.term_model.specs.Terms.{Term}
use Rattle.term_pool.specs.Views.{RefersTo}
use Rattle.rules_congruence.specs.Sides.{IsGiven}
use Rattle.rules_congruence.specs.Ways.{IsWayBy}
use Rattle.rules_congruence.proofs.Carrying.{way_terms}
use Rattle.rules_congruence.proofs.Literals.{equates_both, equates_none}
use Rattle.rules_congruence.proofs.Options.{if_ok}
use Rattle.rules_congruence.proofs.TurningLemmas.{iff_trans}
use Rattle.rules_congruence.proofs.transitivity.equates.Goals as goal
use Rattle.term_parts.proofs.PartLemmas.{false_is}

pub returns-in_default-clause-equates : goal.returns-in_default-clause-equates
returns-in_default-clause-equates c ps t given refers =
    false_is (equates_none (IsWay c.args.mode) ps t (λ u w. c.in_default.ensures.other t u w refers))

pub returns-clause-equates : goal.returns-clause-equates
returns-clause-equates c =
    if_ok (λ yes. IsTrue yes ↔ IsWayBy c.args.mode c.args.given.now.pairs.items c.args.given.now.only c.in-Some.sides.0 c.in-Some.sides.1)
    (λ yes. (ps : List (List Term)) (t : Term) → IsGiven c.args.symbols.now c.args.terms.now c.args.given.now.pairs.items c.args.given.now.only ps → RefersTo c.args.symbols.now c.args.terms.now c.args.literal t → IsTrue yes ↔ Equates (IsWay c.args.mode) ps (t ∷ []))
    c.is_way.result
    (λ yes h ps t given refers.
    let sides = c.in-Some.ensures.sides t refers in
    equates_both c.args.symbols.now c.args.terms.now (IsWay c.args.mode) ps c.in-Some.sides t sides
    (iff_trans h (way_terms c.args.symbols.now c.args.terms.now (c.equal_exactly_where_terms_are.ensures c.args.symbols.now c.leaves_differ.ensures.table)
    c.args.mode c.args.given.now.pairs.items c.args.given.now.only ps c.in-Some.sides.0 c.in-Some.sides.1 sides.left sides.right given sides.left_refers sides.right_refers)))
    c.is_way.ensures
