use Rattle.std.proofs.Common.{◌≡◌, ◌≢◌, inl, inr, arith, ◌∙◌, ap, Some, true, false}
use Rattle.term_pool.proofs.PairLemmas.{split_of, lists_look, other_heads, equal_lists, open_lists, no_equality, equality_judged}
use Rattle.term_pool.proofs.flips.judge_terms.Goals as goal

pub returns-then-number-clause-judged : goal.returns-then-number-clause-judged
returns-then-number-clause-judged c =
    let h = split_of _ _ _ _ c.requires.cells.one c.parts-head.ensures.first c.parts-head.ensures.second in
    let k =
    split_of _ _ _ _ c.requires.cells.other (rw c.parts-head.ensures.same at c.parts-second.ensures.first)
    (rw c.parts-head.ensures.same at c.parts-second.ensures.second) in
    let apart : c.parts-head.result.0 ≢ c.parts-second.result.0 = grind arith in
    other_heads _ c.one_to_one.ensures c.parts_of_trees.ensures _ _ _ _ _ _ _ h k c.requires.cells.apart (inl apart)

pub returns-then-number-eq-LET-clause-judged : goal.returns-then-number-eq-LET-clause-judged
returns-then-number-eq-LET-clause-judged c =
    let h = split_of _ _ _ _ c.requires.cells.one c.parts-head.ensures.first c.parts-head.ensures.second in
    let k =
    split_of _ _ _ _ c.requires.cells.other (rw c.parts-head.ensures.same at c.parts-second.ensures.first)
    (rw c.parts-head.ensures.same at c.parts-second.ensures.second) in
    let is_let : c.parts-head.result.0 ≡ 1 = grind arith in
    other_heads _ c.one_to_one.ensures c.parts_of_trees.ensures _ _ _ _ _ _ _ h k c.requires.cells.apart (inr is_let)

pub returns-in-None-clause-judged : goal.returns-in-None-clause-judged
returns-in-None-clause-judged c =
    let h = split_of _ _ _ _ c.requires.cells.one c.parts-head.ensures.first c.parts-head.ensures.second in
    let k =
    split_of _ _ _ _ c.requires.cells.other (rw c.parts-head.ensures.same at c.parts-second.ensures.first)
    (rw c.parts-head.ensures.same at c.parts-second.ensures.second) in
    rw c.lists-arguments.ensures
    (open_lists _ c.one_to_one.ensures c.args.memo.now _ _ _ _ _ _ h k
    (rw c.in-None.is at (lists_look _ c.one_to_one.ensures c.parts_of_trees.ensures c.args.equal c.args.memo.now c.requires.answers _ _ _ _ _ _ h k _ _ c.lists-arguments.ensures c.look.ensures)))

pub returns-in-Some-true-clause-judged : goal.returns-in-Some-true-clause-judged
returns-in-Some-true-clause-judged c =
    let h = split_of _ _ _ _ c.requires.cells.one c.parts-head.ensures.first c.parts-head.ensures.second in
    let k =
    split_of _ _ _ _ c.requires.cells.other (rw c.parts-head.ensures.same at c.parts-second.ensures.first)
    (rw c.parts-head.ensures.same at c.parts-second.ensures.second) in
    let same : c.parts-head.result.0 ≡ c.parts-second.result.0 = grind arith in
    let no_let : c.parts-head.result.0 ≢ 1 = grind arith in
    let found : c.look.result ≡ Some true = c.in-Some-true.is ∙ ap Some c.in-Some-true.field-0-test in
    equal_lists _ c.one_to_one.ensures c.parts_of_trees.ensures _ c.args.memo.now _ _ _ _ _ _ h k (record { same = same; no_let = no_let })
    (rw found at (lists_look _ c.one_to_one.ensures c.parts_of_trees.ensures c.args.equal c.args.memo.now c.requires.answers _ _ _ _ _ _ h k _ _ c.lists-arguments.ensures c.look.ensures))

pub returns-then-number-equal-clause-judged : goal.returns-then-number-equal-clause-judged
returns-then-number-equal-clause-judged c =
    let h = split_of _ _ _ _ c.requires.cells.one c.parts-head.ensures.first c.parts-head.ensures.second in
    let k =
    split_of _ _ _ _ c.requires.cells.other (rw c.parts-head.ensures.same at c.parts-second.ensures.first)
    (rw c.parts-head.ensures.same at c.parts-second.ensures.second) in
    let same : c.parts-head.result.0 ≡ c.parts-second.result.0 = grind arith in
    let no_let : c.parts-head.result.0 ≢ 1 = grind arith in
    let found : c.look.result ≡ Some false = c.in-Some-false.is ∙ ap Some c.in-Some-false.field-0-test in
    let other : c.parts-head.result.0 ≢ c.args.equal = grind arith in
    no_equality _ c.one_to_one.ensures c.parts_of_trees.ensures _ _ _ _ _ _ _ h k (record { same = same; no_let = no_let }) other
    (rw found at (lists_look _ c.one_to_one.ensures c.parts_of_trees.ensures c.args.equal c.args.memo.now c.requires.answers _ _ _ _ _ _ h k _ _ c.lists-arguments.ensures c.look.ensures))

pub returns-else-number-equal-clause-judged : goal.returns-else-number-equal-clause-judged
returns-else-number-equal-clause-judged c =
    let h = split_of _ _ _ _ c.requires.cells.one c.parts-head.ensures.first c.parts-head.ensures.second in
    let k =
    split_of _ _ _ _ c.requires.cells.other (rw c.parts-head.ensures.same at c.parts-second.ensures.first)
    (rw c.parts-head.ensures.same at c.parts-second.ensures.second) in
    let same : c.parts-head.result.0 ≡ c.parts-second.result.0 = grind arith in
    let no_let : c.parts-head.result.0 ≢ 1 = grind arith in
    let found : c.look.result ≡ Some false = c.in-Some-false.is ∙ ap Some c.in-Some-false.field-0-test in
    let equality : c.parts-head.result.0 ≡ c.args.equal = grind arith in
    equality_judged _ c.one_to_one.ensures c.parts_of_trees.ensures _ c.args.memo.now _ _ _ _ _ _ h k (record { same = same; no_let = no_let }) equality c.requires.equal
    (rw found at (lists_look _ c.one_to_one.ensures c.parts_of_trees.ensures c.args.equal c.args.memo.now c.requires.answers _ _ _ _ _ _ h k _ _ c.lists-arguments.ensures c.look.ensures)) _
    (rw (c.parts-second.ensures.same, c.parts-head.ensures.same) at c.judge_crossed.ensures.crossed c.args.equal c.requires.answers)
