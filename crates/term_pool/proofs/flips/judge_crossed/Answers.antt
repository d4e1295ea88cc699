use Rattle.term_pool.proofs.PairLemmas.{crossed_left, crossed_right, crossed_judged}
use Rattle.term_pool.proofs.flips.judge_crossed.Goals as goal

pub returns-in_default-clause-crossed : goal.returns-in_default-clause-crossed
returns-in_default-clause-crossed c =
    λ equal right. crossed_left _ equal c.args.memo.now _ _ (rw c.in_default.is at c.two_items.ensures.items)

pub returns-in_default-two_items-clause-crossed : goal.returns-in_default-two_items-clause-crossed
returns-in_default-two_items-clause-crossed c =
    λ equal right.
    crossed_right _ equal c.args.memo.now _ _ (rw (c.two_items.ensures.same, c.in_default-two_items.is) at c.two_items-2.ensures.items)

pub returns-clause-crossed : goal.returns-clause-crossed
returns-clause-crossed c =
    λ equal right.
    rw (c.both.ensures, c.terms.ensures, c.terms-2.ensures)
    (crossed_judged _ c.one_to_one.ensures c.parts_of_trees.ensures equal c.args.memo.now right _ _ _ _
    (rw c.in-Some.is at c.two_items.ensures.items)
    (rw (c.two_items.ensures.same, c.in-Some-two_items.is) at c.two_items-2.ensures.items))
