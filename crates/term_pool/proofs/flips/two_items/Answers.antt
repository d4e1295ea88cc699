use Rattle.std.proofs.Common.{◌≤◌, ◌^◌, arith}
use Rattle.term_pool.proofs.PairLemmas.{split_of, rest_known, items_of_two}
use Rattle.term_pool.proofs.ReadingLemmas.{reference_cell}
use Rattle.term_pool.proofs.flips.two_items.Goals as goal

pub parts-first-requires-clause-tree : goal.parts-first-requires-clause-tree
parts-first-requires-clause-tree c =
    let above : 2 ^ 30 ≤ c.args.list = grind arith in reference_cell _ _ c.parts_of_trees.ensures above c.requires.known

pub parts-second-requires-clause-tree : goal.parts-second-requires-clause-tree
parts-second-requires-clause-tree c =
    let above : 2 ^ 30 ≤ c.args.list = grind arith in
    let behind : 2 ^ 30 ≤ c.parts-first.result.1 = grind arith in
    rw c.parts-first.ensures.same
    (reference_cell _ _ c.parts_of_trees.ensures behind
    (rest_known _ _ _ _
    (split_of _ _ _ _ (reference_cell _ _ c.parts_of_trees.ensures above c.requires.known) c.parts-first.ensures.first
    c.parts-first.ensures.second)))

pub returns-clause-items : goal.returns-clause-items
returns-clause-items c =
    let above : 2 ^ 30 ≤ c.args.list = grind arith in
    let behind : 2 ^ 30 ≤ c.parts-first.result.1 = grind arith in
    let one =
    split_of _ _ _ _ (reference_cell _ _ c.parts_of_trees.ensures above c.requires.known) c.parts-first.ensures.first
    c.parts-first.ensures.second in
    items_of_two _ c.one_to_one.ensures c.parts_of_trees.ensures _ _ _ _ _ one
    (split_of _ _ _ _ (reference_cell _ _ c.parts_of_trees.ensures behind (rest_known _ _ _ _ one))
    (rw c.parts-first.ensures.same at c.parts-second.ensures.first)
    (rw c.parts-first.ensures.same at c.parts-second.ensures.second)) (grind arith)
