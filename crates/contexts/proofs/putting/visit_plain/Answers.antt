use Rattle.pair_pool.specs.Trees.{cell}
use Rattle.contexts.proofs.CellBuilding.{first-part, second-part, interned_places, refused_part}
use Rattle.term_pool.proofs.Keeping.{part-refl}
use Rattle.contexts.proofs.Visiting.{spot_cell, plain_of_spot, first_missing, second_missing, first_is, second_is, both_done, both_stop, image_is_known}
use Rattle.contexts.proofs.putting.visit_plain.Goals as goal

pub cell_parts-first-requires : goal.cell_parts-first-requires
cell_parts-first-requires c = spot_cell _ c.parts_of_trees.ensures _ _ c.requires.spot

pub returns-in_default-clause-visits : goal.returns-in_default-clause-visits
returns-in_default-clause-visits c =
    rw c.cell_parts-first.ensures.same
    (first_missing _ c.one_to_one.ensures c.parts_of_trees.ensures c.args.images.now _ _ c.args.memo.now c.args.closed.now c.requires.closed _ _ _ cell (plain_of_spot _ c.parts_of_trees.ensures _ _ _ _ _ _ c.requires.spot c.cell_parts-first.ensures.first c.cell_parts-first.ensures.second c.requires.head) first-part _ c.look.ensures.leaf c.look.ensures.cell c.in_default.is)

pub returns-in_default-look-clause-visits : goal.returns-in_default-look-clause-visits
returns-in_default-look-clause-visits c =
    rw c.cell_parts-first.ensures.same
    (second_missing _ c.one_to_one.ensures c.parts_of_trees.ensures c.args.images.now _ _ c.args.memo.now c.args.closed.now c.requires.closed _ _ _ cell (plain_of_spot _ c.parts_of_trees.ensures _ _ _ _ _ _ c.requires.spot c.cell_parts-first.ensures.first c.cell_parts-first.ensures.second c.requires.head) second-part _ c.look-2.ensures.leaf c.look-2.ensures.cell c.in_default-look.is)

pub cell-requires-clause-first : goal.cell-requires-clause-first
cell-requires-clause-first c = rw c.cell_parts-first.ensures.same (image_is_known _ _ _ _ _ _ c.requires.ready (first_is _ c.one_to_one.ensures c.parts_of_trees.ensures c.args.images.now _ _ c.args.memo.now c.args.closed.now c.requires.closed _ _ _ cell (plain_of_spot _ c.parts_of_trees.ensures _ _ _ _ _ _ c.requires.spot c.cell_parts-first.ensures.first c.cell_parts-first.ensures.second c.requires.head) _ _ c.look.ensures.leaf c.look.ensures.cell c.in-Some.is))

pub cell-requires-clause-second : goal.cell-requires-clause-second
cell-requires-clause-second c = rw c.cell_parts-first.ensures.same (image_is_known _ _ _ _ _ _ c.requires.ready (second_is _ c.one_to_one.ensures c.parts_of_trees.ensures c.args.images.now _ _ c.args.memo.now c.args.closed.now c.requires.closed _ _ _ cell (plain_of_spot _ c.parts_of_trees.ensures _ _ _ _ _ _ c.requires.spot c.cell_parts-first.ensures.first c.cell_parts-first.ensures.second c.requires.head) _ _ c.look-2.ensures.leaf c.look-2.ensures.cell c.in-Some-look.is))

pub returns-in_err-made-clause-visits : goal.returns-in_err-made-clause-visits
returns-in_err-made-clause-visits c =
    let refused = rw c.cell_parts-first.ensures.same at c.in_err-made.ensures.refused in
    both_stop _ c.one_to_one.ensures c.parts_of_trees.ensures c.args.images.now _ _ c.args.memo.now c.args.closed.now c.requires.closed _ _ _ cell (plain_of_spot _ c.parts_of_trees.ensures _ _ _ _ _ _ c.requires.spot c.cell_parts-first.ensures.first c.cell_parts-first.ensures.second c.requires.head) _ _ _ _ _ c.from_residual.ensures.1
    (first_is _ c.one_to_one.ensures c.parts_of_trees.ensures c.args.images.now _ _ c.args.memo.now c.args.closed.now c.requires.closed _ _ _ cell (plain_of_spot _ c.parts_of_trees.ensures _ _ _ _ _ _ c.requires.spot c.cell_parts-first.ensures.first c.cell_parts-first.ensures.second c.requires.head) _ _ c.look.ensures.leaf c.look.ensures.cell c.in-Some.is)
    (second_is _ c.one_to_one.ensures c.parts_of_trees.ensures c.args.images.now _ _ c.args.memo.now c.args.closed.now c.requires.closed _ _ _ cell (plain_of_spot _ c.parts_of_trees.ensures _ _ _ _ _ _ c.requires.spot c.cell_parts-first.ensures.first c.cell_parts-first.ensures.second c.requires.head) _ _ c.look-2.ensures.leaf c.look-2.ensures.cell c.in-Some-look.is)
    (λ s t ks kt. refused_part _ _ _ _ s t (cell s t) ks kt refused (part-refl (cell s t)))

pub returns-clause-visits : goal.returns-clause-visits
returns-clause-visits c =
    let made = rw c.cell_parts-first.ensures.same at c.in_ok-made.ensures.made in
    both_done _ c.one_to_one.ensures c.parts_of_trees.ensures c.args.images.now _ _ c.args.memo.now c.args.closed.now c.requires.closed _ _ _ cell (plain_of_spot _ c.parts_of_trees.ensures _ _ _ _ _ _ c.requires.spot c.cell_parts-first.ensures.first c.cell_parts-first.ensures.second c.requires.head) _ _ _ _
    (first_is _ c.one_to_one.ensures c.parts_of_trees.ensures c.args.images.now _ _ c.args.memo.now c.args.closed.now c.requires.closed _ _ _ cell (plain_of_spot _ c.parts_of_trees.ensures _ _ _ _ _ _ c.requires.spot c.cell_parts-first.ensures.first c.cell_parts-first.ensures.second c.requires.head) _ _ c.look.ensures.leaf c.look.ensures.cell c.in-Some.is)
    (second_is _ c.one_to_one.ensures c.parts_of_trees.ensures c.args.images.now _ _ c.args.memo.now c.args.closed.now c.requires.closed _ _ _ cell (plain_of_spot _ c.parts_of_trees.ensures _ _ _ _ _ _ c.requires.spot c.cell_parts-first.ensures.first c.cell_parts-first.ensures.second c.requires.head) _ _ c.look-2.ensures.leaf c.look-2.ensures.cell c.in-Some-look.is)
    (λ s t ks kt. (made.stands s t ks kt, interned_places _ _ _ _ _ s t ks kt made))
