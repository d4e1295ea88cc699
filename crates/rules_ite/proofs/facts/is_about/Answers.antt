use Rattle.std.proofs.Common.{refl}
use Rattle.std.proofs.lemmas.Result.{IfOk-weaker}
use Rattle.rules_ite.proofs.FactLemmas.{no_choice, other_branch, straight_is, crossed_is, parts_are_terms}
use Rattle.rules_ite.proofs.facts.is_about.Goals as goal

pub returns-in_default-clause-about : goal.returns-in_default-clause-about
returns-in_default-clause-about c m d t p q whole condition first left right =
    no_choice m d t p q (λ a u w. c.in_default.ensures.other m a u w whole)

pub are_same_up_to_flips-requires-clause-other_first : goal.are_same_up_to_flips-requires-clause-other_first
are_same_up_to_flips-requires-clause-other_first c =
    rw c.parts_of.ensures.same
    (parts_are_terms c.args.symbols.now c.args.terms.now c.args.whole _ c.requires.whole c.in-Some.ensures.parts).0

pub are_same_up_to_flips-requires-clause-other_second : goal.are_same_up_to_flips-requires-clause-other_second
are_same_up_to_flips-requires-clause-other_second c =
    rw c.parts_of.ensures.same
    (parts_are_terms c.args.symbols.now c.args.terms.now c.args.whole _ c.requires.whole c.in-Some.ensures.parts).1

pub returns-then-not-branches-clause-about : goal.returns-then-not-branches-clause-about
returns-then-not-branches-clause-about c m d t p q whole condition first left right =
    let are = c.in-Some.ensures.parts m whole in
    let branch = (rw c.parts_of.ensures.same at c.in_ok-branches.ensures.flips) d t are.condition are.first condition first are.condition_refers are.first_refers in
    other_branch c.args.symbols.now c.args.terms.now _ m d t p q are c.in_ok-branches.branches branch c.if-not-branches.true

pub are_same_up_to_flips-requires-2-clause-other_second : goal.are_same_up_to_flips-requires-2-clause-other_second
are_same_up_to_flips-requires-2-clause-other_second c =
    rw (c.are_same_up_to_flips.ensures.same, c.parts_of.ensures.same)
    (parts_are_terms c.args.symbols.now c.args.terms.now c.args.whole _ c.requires.whole c.in-Some.ensures.parts).2

pub returns-then-straight-clause-about : goal.returns-then-straight-clause-about
returns-then-straight-clause-about c m d t p q whole condition first left right =
    let are = c.in-Some.ensures.parts m whole in
    let branch = (rw c.parts_of.ensures.same at c.in_ok-branches.ensures.flips) d t are.condition are.first condition first are.condition_refers are.first_refers in
    let here = (rw (c.are_same_up_to_flips.ensures.same, c.parts_of.ensures.same) at c.in_ok-straight.ensures.flips) p q m are.second left right whole are.second_refers in
    (λ e. straight_is c.args.symbols.now c.args.terms.now _ m d t p q are c.in_ok-branches.branches branch c.if-not-branches.false c.in_ok-straight.straight here c.if-straight.true, λ h. refl)

pub are_same_up_to_flips-requires-3-clause-other_first : goal.are_same_up_to_flips-requires-3-clause-other_first
are_same_up_to_flips-requires-3-clause-other_first c =
    rw (c.are_same_up_to_flips-2.ensures.same, c.are_same_up_to_flips.ensures.same, c.parts_of.ensures.same)
    (parts_are_terms c.args.symbols.now c.args.terms.now c.args.whole _ c.requires.whole c.in-Some.ensures.parts).2

pub returns-clause-about : goal.returns-clause-about
returns-clause-about c =
    IfOk-weaker c.are_same_up_to_flips-3.result _ _ (λ b test m d t p q whole condition first left right.
    let are = c.in-Some.ensures.parts m whole in
    let branch = (rw c.parts_of.ensures.same at c.in_ok-branches.ensures.flips) d t are.condition are.first condition first are.condition_refers are.first_refers in
    let here = (rw (c.are_same_up_to_flips.ensures.same, c.parts_of.ensures.same) at c.in_ok-straight.ensures.flips) p q m are.second left right whole are.second_refers in
    crossed_is c.args.symbols.now c.args.terms.now _ m d t p q are c.in_ok-branches.branches branch c.if-not-branches.false c.in_ok-straight.straight here c.if-straight.false b
    (test p q are.second m left right are.second_refers whole))
    (rw (c.are_same_up_to_flips-2.ensures.same, c.are_same_up_to_flips.ensures.same, c.parts_of.ensures.same) at c.are_same_up_to_flips-3.ensures.flips)
