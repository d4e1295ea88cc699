use Rattle.term_pool.proofs.PairLemmas.{split_of, lists_judged}
use Rattle.term_pool.proofs.flips.judge_lists.Goals as goal

pub returns-clause-judged : goal.returns-clause-judged
returns-clause-judged c =
    λ equal right.
    rw (c.both.ensures, c.terms.ensures, c.lists.ensures)
    (lists_judged _ c.one_to_one.ensures c.parts_of_trees.ensures equal c.args.memo.now right _ _ _ _ _ _
    (split_of _ _ _ _ c.requires.cells.one c.parts-first.ensures.first c.parts-first.ensures.second)
    (split_of _ _ _ _ c.requires.cells.other (rw c.parts-first.ensures.same at c.parts-second.ensures.first)
    (rw c.parts-first.ensures.same at c.parts-second.ensures.second)))
