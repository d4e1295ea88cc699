use Rattle.std.proofs.Common.{◌≡◌, arith}
use Rattle.term_pool.proofs.ReadingLemmas.{part_known, let_rest_known}
use Rattle.term_pool.proofs.shape.shape_of_cell.Goals as goal

pub parts-list-requires-clause-tree : goal.parts-list-requires-clause-tree
parts-list-requires-clause-tree c =
    let is_let : c.parts-head.result.0 ≡ 1 = omega arith in
    rw c.parts-head.ensures.same
    (let_rest_known _ c.one_to_one.ensures c.parts_of_trees.ensures _ _ _ c.requires.tree c.parts-head.ensures.first
    c.parts-head.ensures.second is_let)

pub length-requires-clause-known : goal.length-requires-clause-known
length-requires-clause-known c =
    let is_let : c.parts-head.result.0 ≡ 1 = omega arith in
    rw (c.parts-list.ensures.same, c.parts-head.ensures.same)
    (part_known _ _ _
    (let_rest_known _ c.one_to_one.ensures c.parts_of_trees.ensures _ _ _ c.requires.tree c.parts-head.ensures.first
    c.parts-head.ensures.second is_let)
    (rw c.parts-head.ensures.same at c.parts-list.ensures.first))
