use Rattle.std.proofs.Common.{arith, ◌∙◌}
use Rattle.term_pool.proofs.NotLemmas.{nots_below, nots_next}
use Rattle.term_pool.proofs.nots.strip.Goals as goal

pub overflow_add-nots : goal.overflow_add-nots
overflow_add-nots c =
    let low = nots_below _ c.one_to_one.ensures c.parts_of_trees.ensures c.lists_in_order.ensures _ _ _ _ c.nots.invariant.1 in
    omega arith

pub nots-smaller : goal.nots-smaller
nots-smaller c =
    let low = nots_below _ c.one_to_one.ensures c.parts_of_trees.ensures c.lists_in_order.ensures _ _ _ _ c.nots.invariant.1 in
    omega arith

pub nots-preserved : goal.nots-preserved
nots-preserved c = (
  c.under_not.ensures.same ∙ c.nots.invariant.0,
  nots_next _ c.one_to_one.ensures _ _ _ _ _ c.nots.invariant.1 (rw c.nots.invariant.0 at c.in-Some.ensures.under),
  c.under_not.ensures.of_pool,
)
