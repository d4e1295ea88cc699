use Rattle.pair_pool.specs.Trees.{leaf, cell}
use Rattle.contexts.proofs.CellBuilding.{first-part, second-part, in_first_cell, refused_part, in_front, front_refused}
use Rattle.contexts.proofs.Visiting.{spot_cell, bindings_split, binding_is_cell, bindings_composed, first_missing, second_missing, first_is, second_is, both_done, both_stop, image_is_known}
use Rattle.contexts.proofs.putting.visit_bindings.Goals as goal

pub cell_parts-binding-requires : goal.cell_parts-binding-requires
cell_parts-binding-requires c = spot_cell _ c.parts_of_trees.ensures _ _ c.requires.spot

pub cell_parts-var-requires : goal.cell_parts-var-requires
cell_parts-var-requires c =
    rw c.cell_parts-binding.ensures.same
    (binding_is_cell _ c.parts_of_trees.ensures _ _ _ _ _ c.requires.spot c.cell_parts-binding.ensures.first c.cell_parts-binding.ensures.second)

pub returns-in_default-clause-visits : goal.returns-in_default-clause-visits
returns-in_default-clause-visits c =
    let k = (bindings_split _ c.parts_of_trees.ensures _ _ _ _ _ _ _ c.requires.spot c.cell_parts-binding.ensures.first c.cell_parts-binding.ensures.second (rw c.cell_parts-binding.ensures.same at c.cell_parts-var.ensures.first) (rw c.cell_parts-binding.ensures.same at c.cell_parts-var.ensures.second)) in
    rw (c.cell_parts-var.ensures.same, c.cell_parts-binding.ensures.same)
    (first_missing _ c.one_to_one.ensures c.parts_of_trees.ensures c.args.images.now _ _ c.args.memo.now c.args.closed.now c.requires.closed _ _ _ (λ s t. cell (cell (leaf k.name) s) t) (bindings_composed _ _ _ _ _ _ _ _ _ k c.requires.spot.inside) (in_first_cell (leaf k.name)) _ c.look.ensures.leaf c.look.ensures.cell c.in_default.is)

pub returns-in_default-look-clause-visits : goal.returns-in_default-look-clause-visits
returns-in_default-look-clause-visits c =
    let k = (bindings_split _ c.parts_of_trees.ensures _ _ _ _ _ _ _ c.requires.spot c.cell_parts-binding.ensures.first c.cell_parts-binding.ensures.second (rw c.cell_parts-binding.ensures.same at c.cell_parts-var.ensures.first) (rw c.cell_parts-binding.ensures.same at c.cell_parts-var.ensures.second)) in
    rw (c.cell_parts-var.ensures.same, c.cell_parts-binding.ensures.same)
    (second_missing _ c.one_to_one.ensures c.parts_of_trees.ensures c.args.images.now _ _ c.args.memo.now c.args.closed.now c.requires.closed _ _ _ (λ s t. cell (cell (leaf k.name) s) t) (bindings_composed _ _ _ _ _ _ _ _ _ k c.requires.spot.inside) (λ s t. second-part (cell (leaf k.name) s) t) _ c.look-2.ensures.leaf c.look-2.ensures.cell c.in_default-look.is)

pub cell-requires-clause-first : goal.cell-requires-clause-first
cell-requires-clause-first c =
    let k = (bindings_split _ c.parts_of_trees.ensures _ _ _ _ _ _ _ c.requires.spot c.cell_parts-binding.ensures.first c.cell_parts-binding.ensures.second (rw c.cell_parts-binding.ensures.same at c.cell_parts-var.ensures.first) (rw c.cell_parts-binding.ensures.same at c.cell_parts-var.ensures.second)) in
    rw (c.cell_parts-var.ensures.same, c.cell_parts-binding.ensures.same) (record { tree = leaf k.name; stands = k.var_known })

pub cell-requires-clause-second : goal.cell-requires-clause-second
cell-requires-clause-second c =
    let k = (bindings_split _ c.parts_of_trees.ensures _ _ _ _ _ _ _ c.requires.spot c.cell_parts-binding.ensures.first c.cell_parts-binding.ensures.second (rw c.cell_parts-binding.ensures.same at c.cell_parts-var.ensures.first) (rw c.cell_parts-binding.ensures.same at c.cell_parts-var.ensures.second)) in
    rw (c.cell_parts-var.ensures.same, c.cell_parts-binding.ensures.same) (image_is_known _ _ _ _ _ _ c.requires.ready (first_is _ c.one_to_one.ensures c.parts_of_trees.ensures c.args.images.now _ _ c.args.memo.now c.args.closed.now c.requires.closed _ _ _ (λ s t. cell (cell (leaf k.name) s) t) (bindings_composed _ _ _ _ _ _ _ _ _ k c.requires.spot.inside) _ _ c.look.ensures.leaf c.look.ensures.cell c.in-Some.is))

pub returns-in_err-binding-clause-visits : goal.returns-in_err-binding-clause-visits
returns-in_err-binding-clause-visits c =
    let k = (bindings_split _ c.parts_of_trees.ensures _ _ _ _ _ _ _ c.requires.spot c.cell_parts-binding.ensures.first c.cell_parts-binding.ensures.second (rw c.cell_parts-binding.ensures.same at c.cell_parts-var.ensures.first) (rw c.cell_parts-binding.ensures.same at c.cell_parts-var.ensures.second)) in
    let refused = rw (c.cell_parts-var.ensures.same, c.cell_parts-binding.ensures.same) at c.in_err-binding.ensures.refused in
    both_stop _ c.one_to_one.ensures c.parts_of_trees.ensures c.args.images.now _ _ c.args.memo.now c.args.closed.now c.requires.closed _ _ _ (λ s t. cell (cell (leaf k.name) s) t) (bindings_composed _ _ _ _ _ _ _ _ _ k c.requires.spot.inside) _ _ _ _ _ c.from_residual.ensures.1
    (first_is _ c.one_to_one.ensures c.parts_of_trees.ensures c.args.images.now _ _ c.args.memo.now c.args.closed.now c.requires.closed _ _ _ (λ s t. cell (cell (leaf k.name) s) t) (bindings_composed _ _ _ _ _ _ _ _ _ k c.requires.spot.inside) _ _ c.look.ensures.leaf c.look.ensures.cell c.in-Some.is)
    (second_is _ c.one_to_one.ensures c.parts_of_trees.ensures c.args.images.now _ _ c.args.memo.now c.args.closed.now c.requires.closed _ _ _ (λ s t. cell (cell (leaf k.name) s) t) (bindings_composed _ _ _ _ _ _ _ _ _ k c.requires.spot.inside) _ _ c.look-2.ensures.leaf c.look-2.ensures.cell c.in-Some-look.is)
    (λ s t ks kt. refused_part _ _ _ _ (leaf k.name) s (cell (cell (leaf k.name) s) t) k.var_known ks refused (first-part (cell (leaf k.name) s) t))

pub cell-requires-2-clause-first : goal.cell-requires-2-clause-first
cell-requires-2-clause-first c =
    let k = (bindings_split _ c.parts_of_trees.ensures _ _ _ _ _ _ _ c.requires.spot c.cell_parts-binding.ensures.first c.cell_parts-binding.ensures.second (rw c.cell_parts-binding.ensures.same at c.cell_parts-var.ensures.first) (rw c.cell_parts-binding.ensures.same at c.cell_parts-var.ensures.second)) in
    let made = rw (c.cell_parts-var.ensures.same, c.cell_parts-binding.ensures.same) at c.in_ok-binding.ensures.made in
    let value = image_is_known _ _ _ _ _ _ c.requires.ready (first_is _ c.one_to_one.ensures c.parts_of_trees.ensures c.args.images.now _ _ c.args.memo.now c.args.closed.now c.requires.closed _ _ _ (λ s t. cell (cell (leaf k.name) s) t) (bindings_composed _ _ _ _ _ _ _ _ _ k c.requires.spot.inside) _ _ c.look.ensures.leaf c.look.ensures.cell c.in-Some.is) in
    record { tree = cell (leaf k.name) value.tree; stands = made.stands (leaf k.name) value.tree k.var_known value.stands }

pub cell-requires-2-clause-second : goal.cell-requires-2-clause-second
cell-requires-2-clause-second c =
    let k = (bindings_split _ c.parts_of_trees.ensures _ _ _ _ _ _ _ c.requires.spot c.cell_parts-binding.ensures.first c.cell_parts-binding.ensures.second (rw c.cell_parts-binding.ensures.same at c.cell_parts-var.ensures.first) (rw c.cell_parts-binding.ensures.same at c.cell_parts-var.ensures.second)) in
    let made = rw (c.cell_parts-var.ensures.same, c.cell_parts-binding.ensures.same) at c.in_ok-binding.ensures.made in
    let rest = image_is_known _ _ _ _ _ _ c.requires.ready (second_is _ c.one_to_one.ensures c.parts_of_trees.ensures c.args.images.now _ _ c.args.memo.now c.args.closed.now c.requires.closed _ _ _ (λ s t. cell (cell (leaf k.name) s) t) (bindings_composed _ _ _ _ _ _ _ _ _ k c.requires.spot.inside) _ _ c.look-2.ensures.leaf c.look-2.ensures.cell c.in-Some-look.is) in
    record { tree = rest.tree; stands = made.keeps.grows _ rest.tree rest.stands }

pub returns-in_err-made-clause-visits : goal.returns-in_err-made-clause-visits
returns-in_err-made-clause-visits c =
    let k = (bindings_split _ c.parts_of_trees.ensures _ _ _ _ _ _ _ c.requires.spot c.cell_parts-binding.ensures.first c.cell_parts-binding.ensures.second (rw c.cell_parts-binding.ensures.same at c.cell_parts-var.ensures.first) (rw c.cell_parts-binding.ensures.same at c.cell_parts-var.ensures.second)) in
    let made = rw (c.cell_parts-var.ensures.same, c.cell_parts-binding.ensures.same) at c.in_ok-binding.ensures.made in
    both_stop _ c.one_to_one.ensures c.parts_of_trees.ensures c.args.images.now _ _ c.args.memo.now c.args.closed.now c.requires.closed _ _ _ (λ s t. cell (cell (leaf k.name) s) t) (bindings_composed _ _ _ _ _ _ _ _ _ k c.requires.spot.inside) _ _ _ _ _ c.from_residual-in_err-made.ensures.1
    (first_is _ c.one_to_one.ensures c.parts_of_trees.ensures c.args.images.now _ _ c.args.memo.now c.args.closed.now c.requires.closed _ _ _ (λ s t. cell (cell (leaf k.name) s) t) (bindings_composed _ _ _ _ _ _ _ _ _ k c.requires.spot.inside) _ _ c.look.ensures.leaf c.look.ensures.cell c.in-Some.is)
    (second_is _ c.one_to_one.ensures c.parts_of_trees.ensures c.args.images.now _ _ c.args.memo.now c.args.closed.now c.requires.closed _ _ _ (λ s t. cell (cell (leaf k.name) s) t) (bindings_composed _ _ _ _ _ _ _ _ _ k c.requires.spot.inside) _ _ c.look-2.ensures.leaf c.look-2.ensures.cell c.in-Some-look.is)
    (λ s t ks kt. front_refused _ _ _ _ _ _ _ (leaf k.name) s t k.var_known ks kt made c.in_err-made.ensures.refused)

pub returns-clause-visits : goal.returns-clause-visits
returns-clause-visits c =
    let k = (bindings_split _ c.parts_of_trees.ensures _ _ _ _ _ _ _ c.requires.spot c.cell_parts-binding.ensures.first c.cell_parts-binding.ensures.second (rw c.cell_parts-binding.ensures.same at c.cell_parts-var.ensures.first) (rw c.cell_parts-binding.ensures.same at c.cell_parts-var.ensures.second)) in
    let made = rw (c.cell_parts-var.ensures.same, c.cell_parts-binding.ensures.same) at c.in_ok-binding.ensures.made in
    both_done _ c.one_to_one.ensures c.parts_of_trees.ensures c.args.images.now _ _ c.args.memo.now c.args.closed.now c.requires.closed _ _ _ (λ s t. cell (cell (leaf k.name) s) t) (bindings_composed _ _ _ _ _ _ _ _ _ k c.requires.spot.inside) _ _ _ _
    (first_is _ c.one_to_one.ensures c.parts_of_trees.ensures c.args.images.now _ _ c.args.memo.now c.args.closed.now c.requires.closed _ _ _ (λ s t. cell (cell (leaf k.name) s) t) (bindings_composed _ _ _ _ _ _ _ _ _ k c.requires.spot.inside) _ _ c.look.ensures.leaf c.look.ensures.cell c.in-Some.is)
    (second_is _ c.one_to_one.ensures c.parts_of_trees.ensures c.args.images.now _ _ c.args.memo.now c.args.closed.now c.requires.closed _ _ _ (λ s t. cell (cell (leaf k.name) s) t) (bindings_composed _ _ _ _ _ _ _ _ _ k c.requires.spot.inside) _ _ c.look-2.ensures.leaf c.look-2.ensures.cell c.in-Some-look.is)
    (λ s t ks kt. let h = in_front _ _ _ _ _ _ _ _ (leaf k.name) s t k.var_known ks kt made c.in_ok-made.ensures.made in (h.stands, h.placed))
