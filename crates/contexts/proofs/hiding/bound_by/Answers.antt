use Rattle.std.proofs.Common.{◌<◌, ◌≤◌, ◌^◌, arith, refl, ◌∙◌}
use Rattle.contexts.proofs.HidingLeaves.{listing_start, listing_cell, listing_more, listing_end}
use Rattle.contexts.proofs.LeavingValues.{leaving_binding, binding_cell}
use Rattle.contexts.proofs.hiding.bound_by.Goals as goal

pub bindings-init : goal.bindings-init
bindings-init c = (refl, listing_start _ _ _ c.new-leaves.ensures.items c.requires)

pub cell_parts-binding-requires : goal.cell_parts-binding-requires
cell_parts-binding-requires c =
    let high : 2 ^ 30 ≤ c.bindings.rest = grind arith in
    rw c.bindings.invariant.0 (listing_cell _ c.parts_of_trees.ensures _ _ _ c.bindings.invariant.1 high)

pub cell_parts-var-requires : goal.cell_parts-var-requires
cell_parts-var-requires c =
    let high : 2 ^ 30 ≤ c.bindings.rest = grind arith in
    let h = c.bindings.invariant.1 in
    rw (c.cell_parts-binding.ensures.same, c.bindings.invariant.0)
    (binding_cell _ _ _ _ _ (leaving_binding _ c.parts_of_trees.ensures _ _ _ h.left h.left_known h.left_shape high
    (rw c.bindings.invariant.0 at c.cell_parts-binding.ensures.first) (rw c.bindings.invariant.0 at c.cell_parts-binding.ensures.second)))

pub bindings-preserved : goal.bindings-preserved
bindings-preserved c =
    let high : 2 ^ 30 ≤ c.bindings.rest = grind arith in
    let h = c.bindings.invariant.1 in (
      c.cell_parts-var.ensures.same ∙ c.cell_parts-binding.ensures.same ∙ c.bindings.invariant.0,
      listing_more _ c.parts_of_trees.ensures _ _ _ _ _ _ _ _ h
          (leaving_binding _ c.parts_of_trees.ensures _ _ _ h.left h.left_known h.left_shape high
          (rw c.bindings.invariant.0 at c.cell_parts-binding.ensures.first) (rw c.bindings.invariant.0 at c.cell_parts-binding.ensures.second))
          (rw (c.cell_parts-binding.ensures.same, c.bindings.invariant.0) at c.cell_parts-var.ensures.first)
          c.number.ensures.number c.in_ok-push.ensures.items,
    )

pub returns-clause-leaves : goal.returns-clause-leaves
returns-clause-leaves c =
    let low : c.bindings.rest < 2 ^ 30 = grind arith in
    λ t known shape. listing_end _ c.one_to_one.ensures _ _ _ c.bindings.invariant.1 low t known
