use Rattle.std.proofs.Common.{◌<◌, ◌^◌, ◌≤◌, arith, ◌∙◌}
use Rattle.term_pool.proofs.PassLemmas.{counted_below, count_more, counted_cell, counted_all}
use Rattle.term_pool.proofs.lists.length.Goals as goal

pub parts-rest-requires-clause-tree : goal.parts-rest-requires-clause-tree
parts-rest-requires-clause-tree c =
    let above : 2 ^ 30 ≤ c.items.rest = grind arith in
    rw c.items.invariant.0 (counted_cell _ _ _ _ c.parts_of_trees.ensures above c.items.invariant.1)

pub overflow_add-count : goal.overflow_add-count
overflow_add-count c =
    let low = counted_below _ _ _ _ c.one_to_one.ensures c.parts_of_trees.ensures c.lists_in_order.ensures c.items.invariant.1 in
    omega arith

pub items-smaller : goal.items-smaller
items-smaller c =
    let low = counted_below _ _ _ _ c.one_to_one.ensures c.parts_of_trees.ensures c.lists_in_order.ensures c.items.invariant.1 in
    omega arith

pub items-preserved : goal.items-preserved
items-preserved c =
    let above : 2 ^ 30 ≤ c.items.rest = grind arith in (
      c.parts-rest.ensures.same ∙ c.items.invariant.0,
      count_more _ _ _ _ _ c.parts_of_trees.ensures above c.items.invariant.1 (rw c.items.invariant.0 at c.parts-rest.ensures.second),
      c.parts-rest.ensures.of_pool,
    )

pub returns-clause-length : goal.returns-clause-length
returns-clause-length c =
    let low : c.items.rest < 2 ^ 30 = grind arith in
    counted_all _ _ _ _ c.one_to_one.ensures low c.items.invariant.1
