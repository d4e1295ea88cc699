-- The sides of the equality are terms of Int with linear forms.
use Rattle.std.proofs.Common.{[], refl, sym, subst}
use Rattle.std.proofs.lemmas.Bool.{false≢true}
use Rattle.rule_model.specs.Arith.{MeetsFormSimplification, IsWideFormSimplification}
use Rattle.term_parts.specs.Judging.{Tells}
use Rattle.rules_arith.proofs.FormLemmas.{sorted_are_terms, sides_sorted, states_none, left_is_none, right_is_none, form_tells}
use Rattle.rules_arith.proofs.forms.judged_form.Goals as goal
use Rattle.sort_check.proofs.Leaves.{sorted_is_term}

pub equation-requires : goal.equation-requires
equation-requires c = sorted_are_terms c.args.symbols.now c.args.terms.now c.args.clause.now c.requires

pub returns-in_default-clause-tells : goal.returns-in_default-clause-tells
returns-in_default-clause-tells c ts refer = states_none ts (λ u w e. c.in_default.ensures.other [] ts u w tt refer refl e)

pub is_number-requires : goal.is_number-requires
is_number-requires c =
    let sides = sides_sorted c.args.symbols.now c.args.terms.now _ c.args.clause.now c.requires (λ ts refer. c.in-Some.ensures.equation [] ts tt refer) in
    rw c.equation.ensures.same sides.0

pub returns-then-not-is_number-clause-tells : goal.returns-then-not-is_number-clause-tells
returns-then-not-is_number-clause-tells c ts refer =
    let is = c.in-Some.ensures.equation [] ts tt refer in
    let number = rw c.equation.ensures.same at c.if-not-is_number.ensures.number in
    left_is_none c.args.symbols.now c.args.terms.now _ ts is (λ h. false≢true ((number is.left is.left_refers).1 h))

pub is_number-requires-2 : goal.is_number-requires-2
is_number-requires-2 c =
    let sides = sides_sorted c.args.symbols.now c.args.terms.now _ c.args.clause.now c.requires (λ ts refer. c.in-Some.ensures.equation [] ts tt refer) in
    rw (c.is_number.ensures.same, c.equation.ensures.same) sides.1

pub returns-then-not-is_number-2-clause-tells : goal.returns-then-not-is_number-2-clause-tells
returns-then-not-is_number-2-clause-tells c ts refer =
    let is = c.in-Some.ensures.equation [] ts tt refer in
    let here = rw c.is_number.ensures.same at c.if-not-is_number-2.ensures.number in
    let number = rw c.equation.ensures.same at here in
    right_is_none c.args.symbols.now c.args.terms.now _ ts is (λ h. false≢true ((number is.right is.right_refers).1 h))

pub have_one_form-requires-clause-one : goal.have_one_form-requires-clause-one
have_one_form-requires-clause-one c =
    let sides = sides_sorted c.args.symbols.now c.args.terms.now _ c.args.clause.now c.requires (λ ts refer. c.in-Some.ensures.equation [] ts tt refer) in
    rw (c.is_number-2.ensures.same, c.is_number.ensures.same, c.equation.ensures.same) (sorted_is_term c.args.symbols.now c.args.terms.now _ sides.0)

pub have_one_form-requires-clause-other : goal.have_one_form-requires-clause-other
have_one_form-requires-clause-other c =
    let sides = sides_sorted c.args.symbols.now c.args.terms.now _ c.args.clause.now c.requires (λ ts refer. c.in-Some.ensures.equation [] ts tt refer) in
    rw (c.is_number-2.ensures.same, c.is_number.ensures.same, c.equation.ensures.same) (sorted_is_term c.args.symbols.now c.args.terms.now _ sides.1)

pub returns-clause-tells : goal.returns-clause-tells
returns-clause-tells c ts refer =
    let is = c.in-Some.ensures.equation [] ts tt refer in
    let left = rw c.equation.ensures.same at c.is_number.ensures.number in
    let here = rw c.is_number.ensures.same at c.is_number-2.ensures.number in
    let right = rw c.equation.ensures.same at here in
    let last = rw c.is_number-2.ensures.same at c.in_ok-one_form.ensures.form in
    let later = rw c.is_number.ensures.same at last in
    let form = rw c.equation.ensures.same at later in
    subst (λ a. Tells a (IsWideFormSimplification [] ts) (MeetsFormSimplification [] ts)) (sym c.answer_by.ensures)
    (form_tells c.args.symbols.now c.args.terms.now _ ts is ((left is.left is.left_refers).0 c.if-not-is_number.false) ((right is.right is.right_refers).0 c.if-not-is_number-2.false) c.in_ok-one_form.one_form
    (form is.left is.right is.left_refers is.right_refers))
