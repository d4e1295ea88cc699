use Rattle.std.proofs.Common.{◌<◌, ◌≤◌, ◌^◌, length, refl, ap, arith, ◌∙◌, length-append}
use Rattle.term_pool.proofs.ListLemmas.{collect_start, collected_cell, collected_below, collected_next, collected_all}
use Rattle.term_pool.proofs.lists.items.Goals as goal

pub items-init : goal.items-init
items-init c = (refl, collect_start c.args.pass.now.view c.args.list c.args.into.now.items c.requires.known, c.requires.of_pool)

pub parts-first-requires-clause-tree : goal.parts-first-requires-clause-tree
parts-first-requires-clause-tree c =
    let above : 2 ^ 30 ≤ c.items.rest = grind arith in
    rw c.items.invariant.0 (collected_cell _ _ _ _ _ c.parts_of_trees.ensures above c.items.invariant.1)

pub items-smaller : goal.items-smaller
items-smaller c =
    let low = collected_below _ _ _ _ _ c.one_to_one.ensures c.parts_of_trees.ensures c.lists_in_order.ensures c.items.invariant.1 in
    let more = ap length c.in_ok-push.ensures.items ∙ length-append c.items.into.items _ in
    omega arith

pub items-preserved : goal.items-preserved
items-preserved c =
    let above : 2 ^ 30 ≤ c.items.rest = grind arith in (
      c.parts-first.ensures.same ∙ c.items.invariant.0,
      collected_next _ _ _ _ _ _ _ _ c.parts_of_trees.ensures above c.items.invariant.1
          (rw c.items.invariant.0 at c.parts-first.ensures.first) (rw c.items.invariant.0 at c.parts-first.ensures.second)
          c.in_ok-push.ensures.items,
      c.parts-first.ensures.of_pool,
    )

pub returns-clause-added : goal.returns-clause-added
returns-clause-added c =
    let low : c.items.rest < 2 ^ 30 = grind arith in
    collected_all _ _ _ _ _ c.one_to_one.ensures low c.items.invariant.1
