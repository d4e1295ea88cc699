use Rattle.std.proofs.Common.{◌↔◌, ◌∷◌, [], List, IsTrue}
use Rattle.rule_model.specs.Congruence.{Equates, AreCongruent}
use Rattle.rule_model.specs.Clausal.{as_it_stands}
use Rattle.term_model.specs.Terms.{Term}
use Rattle.term_pool.specs.Views.{RefersTo}
use Rattle.rules_congruence.specs.Sides.{IsGiven}
use Rattle.rules_congruence.specs.Uses.{Together}
use Rattle.rules_congruence.proofs.Literals.{equates_both, equates_none}
use Rattle.rules_congruence.proofs.Options.{if_ok}
use Rattle.rules_congruence.proofs.PartLemmas.{left_is_term, right_is_term}
use Rattle.rules_congruence.proofs.together.equates.Goals as goal
use Rattle.term_parts.proofs.PartLemmas.{false_is}

pub returns-in_default-clause-equates : goal.returns-in_default-clause-equates
returns-in_default-clause-equates c ps t given refers =
    false_is (equates_none (AreCongruent (Together c.args.uses)) ps t (λ u w. c.in_default.ensures.other t u w refers))

pub returns-clause-equates : goal.returns-clause-equates
returns-clause-equates c =
    let s = c.args.symbols.now in
    let v = c.args.terms.now in
    if_ok (λ yes. (ps : List (List Term)) (t u : Term) → IsGiven s v c.args.given.now.pairs.items c.args.given.now.only ps → RefersTo s v c.in-Some.sides.0 t → RefersTo s v c.in-Some.sides.1 u → IsTrue yes ↔ AreCongruent (Together c.args.uses) ps t u)
    (λ yes. (ps : List (List Term)) (t : Term) → IsGiven s v c.args.given.now.pairs.items c.args.given.now.only ps → RefersTo s v c.args.literal t → IsTrue yes ↔ Equates (AreCongruent (Together c.args.uses)) ps (t ∷ []))
    c.are_congruent.result
    (λ yes h ps t given refers.
    let sides = c.in-Some.ensures.sides t refers in
    equates_both s v (AreCongruent (Together c.args.uses)) ps c.in-Some.sides t sides (h ps sides.left sides.right given sides.left_refers sides.right_refers))
    (rw c.sides_of.ensures.same at c.are_congruent.ensures.congruent)

pub are_congruent-requires-clause-left : goal.are_congruent-requires-clause-left
are_congruent-requires-clause-left c =
    rw c.sides_of.ensures.same (left_is_term c.args.symbols.now c.args.terms.now as_it_stands c.args.literal c.in-Some.sides c.requires c.in-Some.ensures.sides)

pub are_congruent-requires-clause-right : goal.are_congruent-requires-clause-right
are_congruent-requires-clause-right c =
    rw c.sides_of.ensures.same (right_is_term c.args.symbols.now c.args.terms.now as_it_stands c.args.literal c.in-Some.sides c.requires c.in-Some.ensures.sides)
