use Rattle.std.proofs.Common.{◌↔◌, ◌∷◌, [], ◌∙◌, List, IsTrue, sym}
use Rattle.rule_model.specs.Clausal.{as_it_stands}
use Rattle.rule_model.specs.Congruence.{Equates, AreCongruent, AreCongruentTruths}
use Rattle.term_model.specs.Terms.{Term}
use Rattle.term_pool.specs.Views.{RefersTo}
use Rattle.rules_congruence.specs.Sides.{IsGiven}
use Rattle.rules_congruence.specs.Uses.{Together}
use Rattle.rules_congruence.proofs.Literals.{equates_both, equates_none}
use Rattle.rules_congruence.proofs.Options.{if_ok}
use Rattle.rules_congruence.proofs.PartLemmas.{left_is_term, right_is_term}
use Rattle.rules_congruence.proofs.PredicateLemmas.{left_sorted, equality_of, right_sort, truths_by, no_truths}
use Rattle.rules_congruence.proofs.predicates.equates_truths.Goals as goal
use Rattle.sort_check.proofs.Leaves.{sorted_is_term}
use Rattle.term_parts.proofs.PartLemmas.{false_is}

pub sides_of-requires : goal.sides_of-requires
sides_of-requires c = sorted_is_term c.args.symbols.now c.args.terms.now c.args.literal c.requires

pub returns-in_default-clause-equates : goal.returns-in_default-clause-equates
returns-in_default-clause-equates c ps t given refers =
    false_is (equates_none (AreCongruentTruths (Together c.args.uses)) ps t (λ u w. c.in_default.ensures.other t u w refers))

pub is_truth-requires : goal.is_truth-requires
is_truth-requires c =
    rw c.sides_of.ensures.same (left_sorted c.args.symbols.now c.args.terms.now c.args.literal c.in-Some.sides c.requires c.in-Some.ensures.sides)

pub returns-then-not-is_truth-clause-equates : goal.returns-then-not-is_truth-clause-equates
returns-then-not-is_truth-clause-equates c ps t given refers =
    let sides = c.in-Some.ensures.sides t refers in
    false_is (no_truths (Together c.args.uses) ps t sides.left sides.right sides.is
    (λ h. let yes = (rw c.sides_of.ensures.same at c.is_truth.ensures.truth) sides.left sides.left_refers in
    let clash = sym c.if-not-is_truth.true ∙ yes.1 h in absurd cc))

pub returns-clause-equates : goal.returns-clause-equates
returns-clause-equates c =
    let s = c.args.symbols.now in
    let v = c.args.terms.now in
    if_ok (λ yes. (ps : List (List Term)) (t u : Term) → IsGiven s v c.args.given.now.pairs.items c.args.given.now.only ps → RefersTo s v c.in-Some.sides.0 t → RefersTo s v c.in-Some.sides.1 u → IsTrue yes ↔ AreCongruent (Together c.args.uses) ps t u)
    (λ yes. (ps : List (List Term)) (t : Term) → IsGiven s v c.args.given.now.pairs.items c.args.given.now.only ps → RefersTo s v c.args.literal t → IsTrue yes ↔ Equates (AreCongruentTruths (Together c.args.uses)) ps (t ∷ []))
    c.are_congruent.result
    (λ yes h ps t given refers.
    let sides = c.in-Some.ensures.sides t refers in
    let one = c.equal_exactly_where_terms_are.ensures s c.leaves_differ.ensures.table in
    let whole = equality_of s v one c.args.literal c.requires t sides.left sides.right refers sides.is in
    let left = ((rw c.sides_of.ensures.same at c.is_truth.ensures.truth) sides.left sides.left_refers).0 c.if-not-is_truth.false in
    equates_both s v (AreCongruentTruths (Together c.args.uses)) ps c.in-Some.sides t sides
    (truths_by (Together c.args.uses) ps sides.left sides.right left (right_sort sides.left sides.right whole left)
    (h ps sides.left sides.right given sides.left_refers sides.right_refers)))
    (rw (c.is_truth.ensures.same, c.sides_of.ensures.same) at c.are_congruent.ensures.congruent)

pub are_congruent-requires-clause-left : goal.are_congruent-requires-clause-left
are_congruent-requires-clause-left c =
    rw (c.is_truth.ensures.same, c.sides_of.ensures.same) (left_is_term c.args.symbols.now c.args.terms.now as_it_stands c.args.literal c.in-Some.sides (sorted_is_term c.args.symbols.now c.args.terms.now c.args.literal c.requires) c.in-Some.ensures.sides)

pub are_congruent-requires-clause-right : goal.are_congruent-requires-clause-right
are_congruent-requires-clause-right c =
    rw (c.is_truth.ensures.same, c.sides_of.ensures.same) (right_is_term c.args.symbols.now c.args.terms.now as_it_stands c.args.literal c.in-Some.sides (sorted_is_term c.args.symbols.now c.args.terms.now c.args.literal c.requires) c.in-Some.ensures.sides)
