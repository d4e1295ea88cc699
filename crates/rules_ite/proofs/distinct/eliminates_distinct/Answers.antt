use Rattle.std.proofs.Common.{◌∷◌, refl, subst}
use Rattle.std.proofs.lemmas.Bool.{OnTrue_at, OnFalse_at}
use Rattle.std.proofs.lemmas.Result.{IfOk-weaker}
use Rattle.term_model.specs.Sorts.{IsWellSorted}
use Rattle.rules_ite.proofs.SeveralLemmas.{arguments_are_sorted, distinct_is_of_one_sort}
use Rattle.rules_ite.proofs.StandingLemmas.{nothing_eliminated, eliminated_is}
use Rattle.rules_ite.proofs.distinct.eliminates_distinct.Goals as goal

pub load_arguments-requires : goal.load_arguments-requires
load_arguments-requires c = record { means = c.requires.left.means; refers = c.requires.left.refers }

pub returns-then-not-branch-clause-eliminates : goal.returns-then-not-branch-clause-eliminates
returns-then-not-branch-clause-eliminates c t u left right =
    nothing_eliminated t u (OnFalse_at c.if-not-branch.true c.in_ok-load_arguments.ensures.other t left)

pub stands_for-requires-clause-list : goal.stands_for-requires-clause-list
stands_for-requires-clause-list c =
    let is = c.requires.left in
    let loaded = OnTrue_at c.if-not-branch.false c.in_ok-load_arguments.ensures.loaded is.means is.refers in
    rw (c.deref.ensures, c.load_arguments.ensures.same)
    (arguments_are_sorted c.args.symbols.now c.args.terms.now c.load_arguments.new.arguments.items (loaded.first ∷ loaded.others) loaded.refer
    (distinct_is_of_one_sort is.means (loaded.first ∷ loaded.others) is.sorted loaded.is))

pub returns-clause-eliminates : goal.returns-clause-eliminates
returns-clause-eliminates c =
    IfOk-weaker c.stands_for.result _ _ (λ b test t u left right.
    let one = c.equal_exactly_where_terms_are.ensures c.args.symbols.now c.leaves_differ.ensures.table in
    let is = c.requires.left in
    let sorted = subst IsWellSorted ((one c.args.left c.args.left is.means t is.refers left).0 refl) is.sorted in
    let loaded = OnTrue_at c.if-not-branch.false c.in_ok-load_arguments.ensures.loaded t left in
    let ts = loaded.first ∷ loaded.others in
    eliminated_is t u ts b loaded.is (test ts u loaded.refer (distinct_is_of_one_sort t ts sorted loaded.is) right))
    (rw (c.deref.ensures, c.load_arguments.ensures.same) at c.stands_for.ensures.stands)
