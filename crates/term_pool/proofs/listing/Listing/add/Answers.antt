use Rattle.std.proofs.Common.{refl, ◌∙◌}
use Rattle.term_pool.proofs.ListingLemmas.{listing_long}
use Rattle.term_pool.proofs.ListingWalk.{walk_start, walk_cell, walk_found, walk_down, down_smaller, walk_over, whole_place, whole_new, walk_up}
use Rattle.term_pool.proofs.listing.Listing.add.Goals as goal

pub cells-init : goal.cells-init
cells-init c = (refl, rw c.new-way.ensures.items (walk_start _ _ _ c.requires.known c.requires.listing), c.requires.of_pool)

pub cells-preserved-in-Some : goal.cells-preserved-in-Some
cells-preserved-in-Some c = (
  c.cells.invariant.0,
  walk_found _ c.one_to_one.ensures c.parts_of_trees.ensures _ _ _ _ _ _ (rw c.in-Down.is at c.cells.invariant.1) c.in-Some.ensures,
  c.cells.invariant.2,
)

pub parts-first-requires-clause-tree : goal.parts-first-requires-clause-tree
parts-first-requires-clause-tree c =
    rw c.cells.invariant.0
    (walk_cell _ c.one_to_one.ensures c.parts_of_trees.ensures _ _ _ _ _ (rw c.in-Down.is at c.cells.invariant.1) c.in-None.ensures.0)

pub cells-preserved-in-None : goal.cells-preserved-in-None
cells-preserved-in-None c = (
  c.parts-first.ensures.same ∙ c.cells.invariant.0,
  rw c.in_ok-push-in-None.ensures.items
      (walk_down _ c.one_to_one.ensures c.parts_of_trees.ensures _ _ _ _ _ _ _ (rw c.in-Down.is at c.cells.invariant.1)
      c.in-None.ensures.0 c.in-None.ensures.1
      (rw c.cells.invariant.0 at c.parts-first.ensures.first) (rw c.cells.invariant.0 at c.parts-first.ensures.second)),
  c.parts-first.ensures.of_pool,
)

pub cells-smaller-in-None : goal.cells-smaller-in-None
cells-smaller-in-None c =
    rw (c.in_ok-push-in-None.ensures.items, c.in-Down.is)
    (down_smaller _ c.cells.way.items c.one_to_one.ensures c.parts_of_trees.ensures c.trees_within.ensures _ _ _
    (walk_cell _ c.one_to_one.ensures c.parts_of_trees.ensures _ _ _ _ _ (rw c.in-Down.is at c.cells.invariant.1) c.in-None.ensures.0)
    (rw c.cells.invariant.0 at c.parts-first.ensures.first) (rw c.cells.invariant.0 at c.parts-first.ensures.second))

pub cells-preserved-in-First : goal.cells-preserved-in-First
cells-preserved-in-First c = (
  c.cells.invariant.0,
  rw c.in_ok-push-in-First.ensures.items
      (walk_over _ c.one_to_one.ensures c.parts_of_trees.ensures _ _ _ _ _ _ _
      (rw (c.in-Up.is, c.in-Some-pop.ensures.items, c.in-First.is) at c.cells.invariant.1)),
  c.cells.invariant.2,
)

pub push-requires-in-Second-clause-each : goal.push-requires-in-Second-clause-each
push-requires-in-Second-clause-each c = listing_long _ _ c.cells.invariant.1.is_listing

pub push-requires-in-Second-clause-place : goal.push-requires-in-Second-clause-place
push-requires-in-Second-clause-place c =
    whole_place _ c.one_to_one.ensures c.parts_of_trees.ensures _ _ _ _ _ _ _
    (rw (c.in-Up.is, c.in-Some-pop.ensures.items, c.in-Second.is) at c.cells.invariant.1)

pub push-requires-in-Second-clause-new : goal.push-requires-in-Second-clause-new
push-requires-in-Second-clause-new c =
    whole_new _ c.one_to_one.ensures c.parts_of_trees.ensures _ _ _ _ _ _ _
    (rw (c.in-Up.is, c.in-Some-pop.ensures.items, c.in-Second.is) at c.cells.invariant.1)

pub cells-preserved : goal.cells-preserved
cells-preserved c = (
  c.cells.invariant.0,
  walk_up _ c.one_to_one.ensures c.parts_of_trees.ensures _ c.cells.self _ _ c.push-in-Second.new.self _ _ _ _
      (rw (c.in-Up.is, c.in-Some-pop.ensures.items, c.in-Second.is) at c.cells.invariant.1) c.in_ok-push-in-Second.ensures,
  c.cells.invariant.2,
)
