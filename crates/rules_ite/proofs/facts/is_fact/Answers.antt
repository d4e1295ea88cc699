use Rattle.std.proofs.Common.{refl}
use Rattle.std.proofs.lemmas.Result.{IfOk-weaker}
use Rattle.rules_ite.proofs.FactLemmas.{choice_of_fact, first_is_no_equality, second_is_no_equality, left_is_fact, right_is, parts_are_terms, sides_are_terms}
use Rattle.rules_ite.proofs.facts.is_fact.Goals as goal

pub returns-in_default-clause-fact : goal.returns-in_default-clause-fact
returns-in_default-clause-fact c t refers = choice_of_fact t (λ d u w. c.in_default.ensures.other t d u w refers)

pub sides_of-requires : goal.sides_of-requires
sides_of-requires c = rw c.parts_of.ensures.same (parts_are_terms c.args.symbols.now c.args.terms.now c.args.fact _ c.requires c.in-Some.ensures.parts).1

pub returns-in_default-sides_of-clause-fact : goal.returns-in_default-sides_of-clause-fact
returns-in_default-sides_of-clause-fact c t refers =
    first_is_no_equality c.args.symbols.now c.args.terms.now _ t (c.in-Some.ensures.parts t refers)
    (λ u a b h. (rw c.parts_of.ensures.same at c.in_default-sides_of.ensures.other) u a b h)

pub sides_of-requires-2 : goal.sides_of-requires-2
sides_of-requires-2 c =
    rw (c.sides_of.ensures.same, c.parts_of.ensures.same)
    (parts_are_terms c.args.symbols.now c.args.terms.now c.args.fact _ c.requires c.in-Some.ensures.parts).2

pub returns-in_default-sides_of-2-clause-fact : goal.returns-in_default-sides_of-2-clause-fact
returns-in_default-sides_of-2-clause-fact c t refers =
    second_is_no_equality c.args.symbols.now c.args.terms.now _ t (c.in-Some.ensures.parts t refers)
    (λ u a b h. (rw (c.sides_of.ensures.same, c.parts_of.ensures.same) at c.in_default-sides_of-2.ensures.other) u a b h)

pub is_about-requires-clause-whole : goal.is_about-requires-clause-whole
is_about-requires-clause-whole c =
    rw (c.sides_of-2.ensures.same, c.sides_of.ensures.same, c.parts_of.ensures.same)
    (sides_are_terms c.args.symbols.now c.args.terms.now _ _ (parts_are_terms c.args.symbols.now c.args.terms.now c.args.fact _ c.requires c.in-Some.ensures.parts).1 (rw c.parts_of.ensures.same at c.in-Some-sides_of.ensures.sides)).0

pub is_about-requires-clause-condition : goal.is_about-requires-clause-condition
is_about-requires-clause-condition c =
    rw (c.sides_of-2.ensures.same, c.sides_of.ensures.same, c.parts_of.ensures.same)
    (parts_are_terms c.args.symbols.now c.args.terms.now c.args.fact _ c.requires c.in-Some.ensures.parts).0

pub is_about-requires-clause-first : goal.is_about-requires-clause-first
is_about-requires-clause-first c =
    rw (c.sides_of-2.ensures.same, c.sides_of.ensures.same, c.parts_of.ensures.same)
    (sides_are_terms c.args.symbols.now c.args.terms.now _ _ (parts_are_terms c.args.symbols.now c.args.terms.now c.args.fact _ c.requires c.in-Some.ensures.parts).1 (rw c.parts_of.ensures.same at c.in-Some-sides_of.ensures.sides)).1

pub is_about-requires-clause-left : goal.is_about-requires-clause-left
is_about-requires-clause-left c =
    rw (c.sides_of-2.ensures.same, c.sides_of.ensures.same, c.parts_of.ensures.same)
    (sides_are_terms c.args.symbols.now c.args.terms.now _ _ (parts_are_terms c.args.symbols.now c.args.terms.now c.args.fact _ c.requires c.in-Some.ensures.parts).2 (rw (c.sides_of.ensures.same, c.parts_of.ensures.same) at c.in-Some-sides_of-2.ensures.sides)).0

pub is_about-requires-clause-right : goal.is_about-requires-clause-right
is_about-requires-clause-right c =
    rw (c.sides_of-2.ensures.same, c.sides_of.ensures.same, c.parts_of.ensures.same)
    (sides_are_terms c.args.symbols.now c.args.terms.now _ _ (parts_are_terms c.args.symbols.now c.args.terms.now c.args.fact _ c.requires c.in-Some.ensures.parts).2 (rw (c.sides_of.ensures.same, c.parts_of.ensures.same) at c.in-Some-sides_of-2.ensures.sides)).1

pub returns-then-branch-clause-fact : goal.returns-then-branch-clause-fact
returns-then-branch-clause-fact c t refers =
    let are = c.in-Some.ensures.parts t refers in
    let left = (rw c.parts_of.ensures.same at c.in-Some-sides_of.ensures.sides) are.first are.first_refers in
    let right = (rw (c.sides_of.ensures.same, c.parts_of.ensures.same) at c.in-Some-sides_of-2.ensures.sides) are.second are.second_refers in
    let about =
    (rw (c.sides_of-2.ensures.same, c.sides_of.ensures.same, c.parts_of.ensures.same) at c.in_ok-is_about.ensures.about)
    left.left are.condition left.right right.left right.right left.left_refers are.condition_refers left.right_refers right.left_refers right.right_refers in
    (λ e. left_is_fact c.args.symbols.now c.args.terms.now _ t are _ _ left right (about.0 c.if-branch.true), λ h. refl)

pub is_about-requires-2-clause-whole : goal.is_about-requires-2-clause-whole
is_about-requires-2-clause-whole c =
    rw (c.is_about.ensures.same, c.sides_of-2.ensures.same, c.sides_of.ensures.same, c.parts_of.ensures.same)
    (sides_are_terms c.args.symbols.now c.args.terms.now _ _ (parts_are_terms c.args.symbols.now c.args.terms.now c.args.fact _ c.requires c.in-Some.ensures.parts).1 (rw c.parts_of.ensures.same at c.in-Some-sides_of.ensures.sides)).1

pub is_about-requires-2-clause-condition : goal.is_about-requires-2-clause-condition
is_about-requires-2-clause-condition c =
    rw (c.is_about.ensures.same, c.sides_of-2.ensures.same, c.sides_of.ensures.same, c.parts_of.ensures.same)
    (parts_are_terms c.args.symbols.now c.args.terms.now c.args.fact _ c.requires c.in-Some.ensures.parts).0

pub is_about-requires-2-clause-first : goal.is_about-requires-2-clause-first
is_about-requires-2-clause-first c =
    rw (c.is_about.ensures.same, c.sides_of-2.ensures.same, c.sides_of.ensures.same, c.parts_of.ensures.same)
    (sides_are_terms c.args.symbols.now c.args.terms.now _ _ (parts_are_terms c.args.symbols.now c.args.terms.now c.args.fact _ c.requires c.in-Some.ensures.parts).1 (rw c.parts_of.ensures.same at c.in-Some-sides_of.ensures.sides)).0

pub is_about-requires-2-clause-left : goal.is_about-requires-2-clause-left
is_about-requires-2-clause-left c =
    rw (c.is_about.ensures.same, c.sides_of-2.ensures.same, c.sides_of.ensures.same, c.parts_of.ensures.same)
    (sides_are_terms c.args.symbols.now c.args.terms.now _ _ (parts_are_terms c.args.symbols.now c.args.terms.now c.args.fact _ c.requires c.in-Some.ensures.parts).2 (rw (c.sides_of.ensures.same, c.parts_of.ensures.same) at c.in-Some-sides_of-2.ensures.sides)).0

pub is_about-requires-2-clause-right : goal.is_about-requires-2-clause-right
is_about-requires-2-clause-right c =
    rw (c.is_about.ensures.same, c.sides_of-2.ensures.same, c.sides_of.ensures.same, c.parts_of.ensures.same)
    (sides_are_terms c.args.symbols.now c.args.terms.now _ _ (parts_are_terms c.args.symbols.now c.args.terms.now c.args.fact _ c.requires c.in-Some.ensures.parts).2 (rw (c.sides_of.ensures.same, c.parts_of.ensures.same) at c.in-Some-sides_of-2.ensures.sides)).1

pub returns-clause-fact : goal.returns-clause-fact
returns-clause-fact c =
    IfOk-weaker c.is_about-2.result _ _ (λ b test t refers.
    let are = c.in-Some.ensures.parts t refers in
    let left = (rw c.parts_of.ensures.same at c.in-Some-sides_of.ensures.sides) are.first are.first_refers in
    let right = (rw (c.sides_of.ensures.same, c.parts_of.ensures.same) at c.in-Some-sides_of-2.ensures.sides) are.second are.second_refers in
    let about =
    (rw (c.sides_of-2.ensures.same, c.sides_of.ensures.same, c.parts_of.ensures.same) at c.in_ok-is_about.ensures.about)
    left.left are.condition left.right right.left right.right left.left_refers are.condition_refers left.right_refers right.left_refers right.right_refers in
    right_is c.args.symbols.now c.args.terms.now _ t are _ _ left right c.in_ok-is_about.field-0 b about c.if-branch.false
    (test left.right are.condition left.left right.left right.right left.right_refers are.condition_refers left.left_refers right.left_refers right.right_refers))
    (rw (c.is_about.ensures.same, c.sides_of-2.ensures.same, c.sides_of.ensures.same, c.parts_of.ensures.same) at c.is_about-2.ensures.about)
