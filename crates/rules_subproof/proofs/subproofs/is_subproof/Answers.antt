use Rattle.std.proofs.Common.{◌≡◌, ◌∙◌, ◌∷◌, List, [], Some, sym, ap, length, false, IsTrue, refl, arith}
use Rattle.std.proofs.lemmas.Bool.{eqb-true, eq-eqb}
use Rattle.std.proofs.lemmas.List.{length-append}
use Rattle.rule_model.specs.Subproof.{negations}
use Rattle.rule_model.specs.Reading.{premises_at, last_inside_at}
use Rattle.term_pool.specs.Bindings.{IsBindingOf}
use Rattle.term_pool.specs.Views.{RefersTo}
use Rattle.term_pool.proofs.References.{refer_are_terms}
use Rattle.rules_subproof.proofs.ScopePlaces.{scope_within, last_before}
use Rattle.rules_subproof.proofs.SubproofLemmas.{empty_too, all_discharged_too, makes_subproof, ending_of_subproof}
use Rattle.term_model.proofs.Zips.{zip_length}
use Rattle.rules_subproof.proofs.subproofs.is_subproof.Goals as goal

not_true : IsTrue false → ⊥
not_true e = cc

none_left : {X : Type 0} (xs : List X) → length xs ≡ 0 → xs ≡ []
none_left [] e = refl
none_left (x ∷ xs) e = absurd (omega arith)

pub bindings-requires : goal.bindings-requires
bindings-requires c = scope_within c.args.proof.now c.args.i c.args.scope c.requires.closes

pub last_inside-requires : goal.last_inside-requires
last_inside-requires c = scope_within c.args.proof.now c.args.i c.args.scope c.requires.closes

pub clause-requires-2 : goal.clause-requires-2
clause-requires-2 c =
    let before = last_before c.args.proof.now c.args.i c.args.scope c.requires.closes c.in-Some.last (sym c.last_inside.ensures ∙ c.in-Some.is) in
    let within = c.requires.index in omega arith

pub ends_with-requires-clause-literals : goal.ends_with-requires-clause-literals
ends_with-requires-clause-literals c =
    rw (c.begins_with_negations.ensures.same, c.clause.ensures)
    (refer_are_terms c.args.symbols.now c.args.terms.now _ _ (c.terms_correspond.ensures.clause c.args.symbols.now c.args.terms.now c.args.proof.now _ c.args.i c.requires.stand.stand))

pub ends_with-requires-clause-place : goal.ends_with-requires-clause-place
ends_with-requires-clause-place c =
    let of = c.requires.stand.proof in
    let stands = c.requires.stand.stand in
    let prefix = (c.begins_with_negations.ensures.begins of stands).0 c.if-not-begins_with_negations.false in
    let whole = ap length prefix.is ∙ length-append (negations of c.args.i) prefix.rest in
    let count = c.begins_with_negations.ensures.count of stands in
    let same = ap length (c.commands_correspond.ensures.discharged c.args.symbols.now c.args.terms.now c.args.proof.now of c.args.i stands) in
    let own = ap length c.discharged-place.ensures in
    let clause = ap length c.clause.ensures in
    let zip = zip_length (RefersTo c.args.symbols.now c.args.terms.now) _ _ (c.terms_correspond.ensures.clause c.args.symbols.now c.args.terms.now c.args.proof.now of c.args.i stands) in
    omega arith

pub returns-then-not-is_empty-clause-met : goal.returns-then-not-is_empty-clause-met
returns-then-not-is_empty-clause-met c of stands = (
  λ e. absurd (not_true e),
  λ h. absurd
      (let none = (empty_too (IsBindingOf c.args.symbols.now c.args.terms.now) _ _ (c.terms_correspond.ensures.bindings c.args.symbols.now c.args.terms.now c.args.proof.now of c.args.scope stands)).1 h.no_bindings in
      let short = ap length (c.bindings.ensures ∙ none) in
      let clash = sym c.if-not-is_empty.true ∙ (c.is_empty.ensures ∙ eq-eqb _ _ short) in cc),
)

pub returns-then-not-are_among-clause-met : goal.returns-then-not-are_among-clause-met
returns-then-not-are_among-clause-met c of stands = (
  λ e. absurd (not_true e),
  λ h. absurd
      (let all = (all_discharged_too c.args.proof.now of c.args.i c.args.scope
      (λ j. c.commands_correspond.ensures.scope c.args.symbols.now c.args.terms.now c.args.proof.now of j stands)
      (λ j. c.commands_correspond.ensures.rule c.args.symbols.now c.args.terms.now c.args.proof.now of j stands)
      (c.commands_correspond.ensures.discharged c.args.symbols.now c.args.terms.now c.args.proof.now of c.args.i stands)).1 h.discharged in
      let yes = (rw c.discharged.ensures at c.are_among.ensures).1 all in
      not_true (rw c.if-not-are_among.true at yes)),
)

pub returns-clause-met : goal.returns-clause-met
returns-clause-met c of stands =
    let same = c.commands_correspond.ensures.discharged c.args.symbols.now c.args.terms.now c.args.proof.now of c.args.i stands in
    let is_last : last_inside_at of c.args.scope ≡ Some c.in-Some.last = sym (c.terms_correspond.ensures.last_inside c.args.symbols.now c.args.terms.now c.args.proof.now of c.args.scope stands) ∙ (sym c.last_inside.ensures ∙ c.in-Some.is) in
    let count : length (negations of c.args.i) ≡ length c.discharged-place.result.now = c.begins_with_negations.ensures.count of stands ∙ (ap length (sym same) ∙ ap length (sym c.discharged-place.ensures)) in
    let ends = (rw (c.begins_with_negations.ensures.same, c.clause.ensures, c.clause-2.ensures) at c.ends_with.ensures.ends) _ _
    (c.terms_correspond.ensures.clause c.args.symbols.now c.args.terms.now c.args.proof.now of c.args.i stands)
    (c.terms_correspond.ensures.clause c.args.symbols.now c.args.terms.now c.args.proof.now of c.in-Some.last stands) in
    let no_bindings = (empty_too (IsBindingOf c.args.symbols.now c.args.terms.now) _ _ (c.terms_correspond.ensures.bindings c.args.symbols.now c.args.terms.now c.args.proof.now of c.args.scope stands)).0
    (sym c.bindings.ensures ∙ none_left _ (eqb-true _ _ (sym c.is_empty.ensures ∙ c.if-not-is_empty.false))) in
    let no_premises : premises_at of c.args.i ≡ [] = sym (c.commands_correspond.ensures.premises c.args.symbols.now c.args.terms.now c.args.proof.now of c.args.i stands)
    ∙ (sym c.premises.ensures ∙ none_left _ (eqb-true _ _ (sym c.is_empty-2.ensures ∙ c.if-not-is_empty-2.false))) in
    let discharged = (all_discharged_too c.args.proof.now of c.args.i c.args.scope
    (λ j. c.commands_correspond.ensures.scope c.args.symbols.now c.args.terms.now c.args.proof.now of j stands)
    (λ j. c.commands_correspond.ensures.rule c.args.symbols.now c.args.terms.now c.args.proof.now of j stands) same).0
    ((rw c.discharged.ensures at c.are_among.ensures).0 c.if-not-are_among.false) in
    let prefix = (c.begins_with_negations.ensures.begins of stands).0 c.if-not-begins_with_negations.false in (
      λ e. makes_subproof of c.args.i c.args.scope c.in-Some.last (length c.discharged-place.result.now) is_last count no_bindings no_premises discharged prefix (ends.0 e),
      λ h. ends.1 (ending_of_subproof of c.args.i c.args.scope c.in-Some.last (length c.discharged-place.result.now) is_last count h),
    )
