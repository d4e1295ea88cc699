use Rattle.std.proofs.Common.{◌<◌, ◌≤◌, ◌^◌, arith}
use Rattle.term_pool.proofs.ShapeLemmas.{term_leaf_below, term_leaf_shape, term_is_cell, term_cell_shape}
use Rattle.term_pool.proofs.terms.Terms.view.Goals as goal

pub shape_of_leaf-requires : goal.shape_of_leaf-requires
shape_of_leaf-requires c =
    let low : c.args.r < 2 ^ 30 = grind arith in
    rw c.number.ensures.number
    (term_leaf_below _ _ _ c.one_to_one.ensures c.parts_of_trees.ensures low (rw (← c.self.view_is) at c.requires))

pub returns-then-is_leaf-clause-shape : goal.returns-then-is_leaf-clause-shape
returns-then-is_leaf-clause-shape c =
    let low : c.args.r < 2 ^ 30 = grind arith in
    rw (← c.self.view_is)
    (λ t. term_leaf_shape _ _ _ _ c.one_to_one.ensures c.parts_of_trees.ensures low (rw c.number.ensures.number at c.shape_of_leaf.ensures) t)

pub shape_of_cell-requires-clause-tree : goal.shape_of_cell-requires-clause-tree
shape_of_cell-requires-clause-tree c =
    let above : 2 ^ 30 ≤ c.args.r = grind arith in
    term_is_cell _ _ _ c.leaves_differ.ensures.table c.parts_of_trees.ensures above (rw (← c.self.view_is) at c.requires)

pub returns-clause-shape : goal.returns-clause-shape
returns-clause-shape c =
    let above : 2 ^ 30 ≤ c.args.r = grind arith in
    rw (← c.self.view_is)
    (λ t. term_cell_shape _ _ _ _ c.leaves_differ.ensures.table c.parts_of_trees.ensures above c.shape_of_cell.ensures.shape t)
