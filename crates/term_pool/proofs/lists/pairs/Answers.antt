use Rattle.std.proofs.Common.{◌<◌, ◌≤◌, ◌^◌, length, refl, ap, arith, ◌∙◌, length-append}
use Rattle.term_pool.proofs.ListLemmas.{pairs_start, pairs_cell, pair_cell, pairs_below, pairs_next, pairs_all}
use Rattle.term_pool.proofs.lists.pairs.Goals as goal

pub pairs-init : goal.pairs-init
pairs-init c = (refl, pairs_start c.args.pass.now.view c.args.list c.args.leaves.now.items c.args.into.now.items c.requires.list, c.requires.of_pool)

pub parts-first-requires-clause-tree : goal.parts-first-requires-clause-tree
parts-first-requires-clause-tree c =
    let above : 2 ^ 30 ≤ c.pairs.rest = grind arith in
    rw c.pairs.invariant.0 (pairs_cell _ _ _ _ _ _ _ c.parts_of_trees.ensures above c.pairs.invariant.1)

pub parts-leaf-requires-clause-tree : goal.parts-leaf-requires-clause-tree
parts-leaf-requires-clause-tree c =
    let above : 2 ^ 30 ≤ c.pairs.rest = grind arith in
    rw (c.parts-first.ensures.same, c.pairs.invariant.0)
    (pair_cell _ _ _ _ _ _ _ _ c.parts_of_trees.ensures above c.pairs.invariant.1
    (rw c.pairs.invariant.0 at c.parts-first.ensures.first))

pub pairs-smaller : goal.pairs-smaller
pairs-smaller c =
    let low = pairs_below _ _ _ _ _ _ _ c.one_to_one.ensures c.parts_of_trees.ensures c.lists_in_order.ensures c.pairs.invariant.1 in
    let more = ap length c.in_ok-push-2.ensures.items ∙ length-append c.pairs.into.items _ in
    omega arith

pub pairs-preserved : goal.pairs-preserved
pairs-preserved c =
    let above : 2 ^ 30 ≤ c.pairs.rest = grind arith in (
      c.parts-leaf.ensures.same ∙ c.parts-first.ensures.same ∙ c.pairs.invariant.0,
      pairs_next _ _ _ _ _ _ _ _ _ _ _ _ _ _ c.parts_of_trees.ensures above c.pairs.invariant.1
          (rw c.pairs.invariant.0 at c.parts-first.ensures.first) (rw c.pairs.invariant.0 at c.parts-first.ensures.second)
          (rw (c.parts-first.ensures.same, c.pairs.invariant.0) at c.parts-leaf.ensures.first)
          (rw (c.parts-first.ensures.same, c.pairs.invariant.0) at c.parts-leaf.ensures.second) c.number.ensures.number
          c.in_ok-push.ensures.items c.in_ok-push-2.ensures.items,
      c.parts-leaf.ensures.of_pool,
    )

pub returns-clause-added : goal.returns-clause-added
returns-clause-added c =
    let low : c.pairs.rest < 2 ^ 30 = grind arith in
    pairs_all _ _ _ _ _ _ _ c.one_to_one.ensures low c.pairs.invariant.1
