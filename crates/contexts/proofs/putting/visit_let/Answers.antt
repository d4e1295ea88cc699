use Rattle.pair_pool.specs.Trees.{cell}
use Rattle.contexts.proofs.CellBuilding.{second-part, first_in_rest, second_in_rest, refused_part, behind, behind_refused}
use Rattle.contexts.proofs.References.{rest_cell}
use Rattle.contexts.proofs.Visiting.{spot_cell, let_split, let_rest_of, let_composed, split_list, split_body, first_missing, second_missing, first_is, second_is, both_done, both_stop, image_is_known}
use Rattle.contexts.proofs.putting.visit_let.Goals as goal

pub cell_parts-head-requires : goal.cell_parts-head-requires
cell_parts-head-requires c = spot_cell _ c.parts_of_trees.ensures _ _ c.requires.spot

pub cell_parts-list-requires : goal.cell_parts-list-requires
cell_parts-list-requires c =
    rw c.cell_parts-head.ensures.same
    (rest_cell _ _ (let_rest_of _ c.parts_of_trees.ensures _ _ c.cell_parts-head.result.0 _ _ c.requires.spot c.requires.head c.cell_parts-head.ensures.second))

pub under_let-requires-clause-list : goal.under_let-requires-clause-list
under_let-requires-clause-list c =
    let k = (let_split _ c.parts_of_trees.ensures _ _ _ _ _ _ _ c.requires.spot c.requires.head c.cell_parts-head.ensures.first c.cell_parts-head.ensures.second (rw c.cell_parts-head.ensures.same at c.cell_parts-list.ensures.first) (rw c.cell_parts-head.ensures.same at c.cell_parts-list.ensures.second)) in
    rw (c.cell_parts-list.ensures.same, c.cell_parts-head.ensures.same) (split_list _ _ _ _ _ _ k)

pub under_let-requires-clause-body : goal.under_let-requires-clause-body
under_let-requires-clause-body c =
    let k = (let_split _ c.parts_of_trees.ensures _ _ _ _ _ _ _ c.requires.spot c.requires.head c.cell_parts-head.ensures.first c.cell_parts-head.ensures.second (rw c.cell_parts-head.ensures.same at c.cell_parts-list.ensures.first) (rw c.cell_parts-head.ensures.same at c.cell_parts-list.ensures.second)) in
    rw (c.cell_parts-list.ensures.same, c.cell_parts-head.ensures.same) (split_body _ _ _ _ _ _ k)

pub returns-in_default-clause-visits : goal.returns-in_default-clause-visits
returns-in_default-clause-visits c =
    let k = (let_split _ c.parts_of_trees.ensures _ _ _ _ _ _ _ c.requires.spot c.requires.head c.cell_parts-head.ensures.first c.cell_parts-head.ensures.second (rw c.cell_parts-head.ensures.same at c.cell_parts-list.ensures.first) (rw c.cell_parts-head.ensures.same at c.cell_parts-list.ensures.second)) in
    rw (c.under_let.ensures.same, c.cell_parts-list.ensures.same, c.cell_parts-head.ensures.same)
    (first_missing _ c.one_to_one.ensures c.parts_of_trees.ensures c.args.images.now _ _ c.args.memo.now c.args.closed.now c.requires.closed _ _ _ (λ s t. cell k.top (cell s t)) (let_composed _ _ _ _ _ _ _ _ _ _ _ k c.under_let.ensures.keeps c.requires.spot.inside c.in_ok-under.ensures.inside (rw (c.cell_parts-list.ensures.same, c.cell_parts-head.ensures.same) at c.in_ok-under.ensures.hides)) (first_in_rest k.top) _ c.look.ensures.leaf c.look.ensures.cell c.in_default.is)

pub returns-in_default-look-clause-visits : goal.returns-in_default-look-clause-visits
returns-in_default-look-clause-visits c =
    let k = (let_split _ c.parts_of_trees.ensures _ _ _ _ _ _ _ c.requires.spot c.requires.head c.cell_parts-head.ensures.first c.cell_parts-head.ensures.second (rw c.cell_parts-head.ensures.same at c.cell_parts-list.ensures.first) (rw c.cell_parts-head.ensures.same at c.cell_parts-list.ensures.second)) in
    rw (c.under_let.ensures.same, c.cell_parts-list.ensures.same, c.cell_parts-head.ensures.same)
    (second_missing _ c.one_to_one.ensures c.parts_of_trees.ensures c.args.images.now _ _ c.args.memo.now c.args.closed.now c.requires.closed _ _ _ (λ s t. cell k.top (cell s t)) (let_composed _ _ _ _ _ _ _ _ _ _ _ k c.under_let.ensures.keeps c.requires.spot.inside c.in_ok-under.ensures.inside (rw (c.cell_parts-list.ensures.same, c.cell_parts-head.ensures.same) at c.in_ok-under.ensures.hides)) (second_in_rest k.top) _ c.look-2.ensures.leaf c.look-2.ensures.cell c.in_default-look.is)

pub cell-requires-clause-first : goal.cell-requires-clause-first
cell-requires-clause-first c =
    let k = (let_split _ c.parts_of_trees.ensures _ _ _ _ _ _ _ c.requires.spot c.requires.head c.cell_parts-head.ensures.first c.cell_parts-head.ensures.second (rw c.cell_parts-head.ensures.same at c.cell_parts-list.ensures.first) (rw c.cell_parts-head.ensures.same at c.cell_parts-list.ensures.second)) in
    rw (c.under_let.ensures.same, c.cell_parts-list.ensures.same, c.cell_parts-head.ensures.same) (image_is_known _ _ _ _ _ _ c.requires.ready (first_is _ c.one_to_one.ensures c.parts_of_trees.ensures c.args.images.now _ _ c.args.memo.now c.args.closed.now c.requires.closed _ _ _ (λ s t. cell k.top (cell s t)) (let_composed _ _ _ _ _ _ _ _ _ _ _ k c.under_let.ensures.keeps c.requires.spot.inside c.in_ok-under.ensures.inside (rw (c.cell_parts-list.ensures.same, c.cell_parts-head.ensures.same) at c.in_ok-under.ensures.hides)) _ _ c.look.ensures.leaf c.look.ensures.cell c.in-Some.is))

pub cell-requires-clause-second : goal.cell-requires-clause-second
cell-requires-clause-second c =
    let k = (let_split _ c.parts_of_trees.ensures _ _ _ _ _ _ _ c.requires.spot c.requires.head c.cell_parts-head.ensures.first c.cell_parts-head.ensures.second (rw c.cell_parts-head.ensures.same at c.cell_parts-list.ensures.first) (rw c.cell_parts-head.ensures.same at c.cell_parts-list.ensures.second)) in
    rw (c.under_let.ensures.same, c.cell_parts-list.ensures.same, c.cell_parts-head.ensures.same) (image_is_known _ _ _ _ _ _ c.requires.ready (second_is _ c.one_to_one.ensures c.parts_of_trees.ensures c.args.images.now _ _ c.args.memo.now c.args.closed.now c.requires.closed _ _ _ (λ s t. cell k.top (cell s t)) (let_composed _ _ _ _ _ _ _ _ _ _ _ k c.under_let.ensures.keeps c.requires.spot.inside c.in_ok-under.ensures.inside (rw (c.cell_parts-list.ensures.same, c.cell_parts-head.ensures.same) at c.in_ok-under.ensures.hides)) _ _ c.look-2.ensures.leaf c.look-2.ensures.cell c.in-Some-look.is))

pub returns-in_err-rest-clause-visits : goal.returns-in_err-rest-clause-visits
returns-in_err-rest-clause-visits c =
    let k = (let_split _ c.parts_of_trees.ensures _ _ _ _ _ _ _ c.requires.spot c.requires.head c.cell_parts-head.ensures.first c.cell_parts-head.ensures.second (rw c.cell_parts-head.ensures.same at c.cell_parts-list.ensures.first) (rw c.cell_parts-head.ensures.same at c.cell_parts-list.ensures.second)) in
    let refused = rw (c.under_let.ensures.same, c.cell_parts-list.ensures.same, c.cell_parts-head.ensures.same) at c.in_err-rest.ensures.refused in
    both_stop _ c.one_to_one.ensures c.parts_of_trees.ensures c.args.images.now _ _ c.args.memo.now c.args.closed.now c.requires.closed _ _ _ (λ s t. cell k.top (cell s t)) (let_composed _ _ _ _ _ _ _ _ _ _ _ k c.under_let.ensures.keeps c.requires.spot.inside c.in_ok-under.ensures.inside (rw (c.cell_parts-list.ensures.same, c.cell_parts-head.ensures.same) at c.in_ok-under.ensures.hides)) _ _ _ _ _ c.from_residual-in_err-rest.ensures.1
    (first_is _ c.one_to_one.ensures c.parts_of_trees.ensures c.args.images.now _ _ c.args.memo.now c.args.closed.now c.requires.closed _ _ _ (λ s t. cell k.top (cell s t)) (let_composed _ _ _ _ _ _ _ _ _ _ _ k c.under_let.ensures.keeps c.requires.spot.inside c.in_ok-under.ensures.inside (rw (c.cell_parts-list.ensures.same, c.cell_parts-head.ensures.same) at c.in_ok-under.ensures.hides)) _ _ c.look.ensures.leaf c.look.ensures.cell c.in-Some.is)
    (second_is _ c.one_to_one.ensures c.parts_of_trees.ensures c.args.images.now _ _ c.args.memo.now c.args.closed.now c.requires.closed _ _ _ (λ s t. cell k.top (cell s t)) (let_composed _ _ _ _ _ _ _ _ _ _ _ k c.under_let.ensures.keeps c.requires.spot.inside c.in_ok-under.ensures.inside (rw (c.cell_parts-list.ensures.same, c.cell_parts-head.ensures.same) at c.in_ok-under.ensures.hides)) _ _ c.look-2.ensures.leaf c.look-2.ensures.cell c.in-Some-look.is)
    (λ s t ks kt. refused_part _ _ _ _ s t (cell k.top (cell s t)) ks kt refused (second-part k.top (cell s t)))

pub cell-requires-2-clause-first : goal.cell-requires-2-clause-first
cell-requires-2-clause-first c =
    let k = (let_split _ c.parts_of_trees.ensures _ _ _ _ _ _ _ c.requires.spot c.requires.head c.cell_parts-head.ensures.first c.cell_parts-head.ensures.second (rw c.cell_parts-head.ensures.same at c.cell_parts-list.ensures.first) (rw c.cell_parts-head.ensures.same at c.cell_parts-list.ensures.second)) in
    let made = rw (c.under_let.ensures.same, c.cell_parts-list.ensures.same, c.cell_parts-head.ensures.same) at c.in_ok-rest.ensures.made in
    record { tree = k.top; stands = made.keeps.grows _ k.top k.head_known }

pub cell-requires-2-clause-second : goal.cell-requires-2-clause-second
cell-requires-2-clause-second c =
    let k = (let_split _ c.parts_of_trees.ensures _ _ _ _ _ _ _ c.requires.spot c.requires.head c.cell_parts-head.ensures.first c.cell_parts-head.ensures.second (rw c.cell_parts-head.ensures.same at c.cell_parts-list.ensures.first) (rw c.cell_parts-head.ensures.same at c.cell_parts-list.ensures.second)) in
    let made = rw (c.under_let.ensures.same, c.cell_parts-list.ensures.same, c.cell_parts-head.ensures.same) at c.in_ok-rest.ensures.made in
    let list = image_is_known _ _ _ _ _ _ c.requires.ready (first_is _ c.one_to_one.ensures c.parts_of_trees.ensures c.args.images.now _ _ c.args.memo.now c.args.closed.now c.requires.closed _ _ _ (λ s t. cell k.top (cell s t)) (let_composed _ _ _ _ _ _ _ _ _ _ _ k c.under_let.ensures.keeps c.requires.spot.inside c.in_ok-under.ensures.inside (rw (c.cell_parts-list.ensures.same, c.cell_parts-head.ensures.same) at c.in_ok-under.ensures.hides)) _ _ c.look.ensures.leaf c.look.ensures.cell c.in-Some.is) in
    let body = image_is_known _ _ _ _ _ _ c.requires.ready (second_is _ c.one_to_one.ensures c.parts_of_trees.ensures c.args.images.now _ _ c.args.memo.now c.args.closed.now c.requires.closed _ _ _ (λ s t. cell k.top (cell s t)) (let_composed _ _ _ _ _ _ _ _ _ _ _ k c.under_let.ensures.keeps c.requires.spot.inside c.in_ok-under.ensures.inside (rw (c.cell_parts-list.ensures.same, c.cell_parts-head.ensures.same) at c.in_ok-under.ensures.hides)) _ _ c.look-2.ensures.leaf c.look-2.ensures.cell c.in-Some-look.is) in
    record { tree = cell list.tree body.tree; stands = made.stands list.tree body.tree list.stands body.stands }

pub returns-in_err-made-clause-visits : goal.returns-in_err-made-clause-visits
returns-in_err-made-clause-visits c =
    let k = (let_split _ c.parts_of_trees.ensures _ _ _ _ _ _ _ c.requires.spot c.requires.head c.cell_parts-head.ensures.first c.cell_parts-head.ensures.second (rw c.cell_parts-head.ensures.same at c.cell_parts-list.ensures.first) (rw c.cell_parts-head.ensures.same at c.cell_parts-list.ensures.second)) in
    let made = rw (c.under_let.ensures.same, c.cell_parts-list.ensures.same, c.cell_parts-head.ensures.same) at c.in_ok-rest.ensures.made in
    both_stop _ c.one_to_one.ensures c.parts_of_trees.ensures c.args.images.now _ _ c.args.memo.now c.args.closed.now c.requires.closed _ _ _ (λ s t. cell k.top (cell s t)) (let_composed _ _ _ _ _ _ _ _ _ _ _ k c.under_let.ensures.keeps c.requires.spot.inside c.in_ok-under.ensures.inside (rw (c.cell_parts-list.ensures.same, c.cell_parts-head.ensures.same) at c.in_ok-under.ensures.hides)) _ _ _ _ _ c.from_residual-in_err-made.ensures.1
    (first_is _ c.one_to_one.ensures c.parts_of_trees.ensures c.args.images.now _ _ c.args.memo.now c.args.closed.now c.requires.closed _ _ _ (λ s t. cell k.top (cell s t)) (let_composed _ _ _ _ _ _ _ _ _ _ _ k c.under_let.ensures.keeps c.requires.spot.inside c.in_ok-under.ensures.inside (rw (c.cell_parts-list.ensures.same, c.cell_parts-head.ensures.same) at c.in_ok-under.ensures.hides)) _ _ c.look.ensures.leaf c.look.ensures.cell c.in-Some.is)
    (second_is _ c.one_to_one.ensures c.parts_of_trees.ensures c.args.images.now _ _ c.args.memo.now c.args.closed.now c.requires.closed _ _ _ (λ s t. cell k.top (cell s t)) (let_composed _ _ _ _ _ _ _ _ _ _ _ k c.under_let.ensures.keeps c.requires.spot.inside c.in_ok-under.ensures.inside (rw (c.cell_parts-list.ensures.same, c.cell_parts-head.ensures.same) at c.in_ok-under.ensures.hides)) _ _ c.look-2.ensures.leaf c.look-2.ensures.cell c.in-Some-look.is)
    (λ s t ks kt. behind_refused _ _ _ _ _ _ _ k.top s t k.head_known ks kt made c.in_err-made.ensures.refused)

pub returns-clause-visits : goal.returns-clause-visits
returns-clause-visits c =
    let k = (let_split _ c.parts_of_trees.ensures _ _ _ _ _ _ _ c.requires.spot c.requires.head c.cell_parts-head.ensures.first c.cell_parts-head.ensures.second (rw c.cell_parts-head.ensures.same at c.cell_parts-list.ensures.first) (rw c.cell_parts-head.ensures.same at c.cell_parts-list.ensures.second)) in
    let made = rw (c.under_let.ensures.same, c.cell_parts-list.ensures.same, c.cell_parts-head.ensures.same) at c.in_ok-rest.ensures.made in
    both_done _ c.one_to_one.ensures c.parts_of_trees.ensures c.args.images.now _ _ c.args.memo.now c.args.closed.now c.requires.closed _ _ _ (λ s t. cell k.top (cell s t)) (let_composed _ _ _ _ _ _ _ _ _ _ _ k c.under_let.ensures.keeps c.requires.spot.inside c.in_ok-under.ensures.inside (rw (c.cell_parts-list.ensures.same, c.cell_parts-head.ensures.same) at c.in_ok-under.ensures.hides)) _ _ _ _
    (first_is _ c.one_to_one.ensures c.parts_of_trees.ensures c.args.images.now _ _ c.args.memo.now c.args.closed.now c.requires.closed _ _ _ (λ s t. cell k.top (cell s t)) (let_composed _ _ _ _ _ _ _ _ _ _ _ k c.under_let.ensures.keeps c.requires.spot.inside c.in_ok-under.ensures.inside (rw (c.cell_parts-list.ensures.same, c.cell_parts-head.ensures.same) at c.in_ok-under.ensures.hides)) _ _ c.look.ensures.leaf c.look.ensures.cell c.in-Some.is)
    (second_is _ c.one_to_one.ensures c.parts_of_trees.ensures c.args.images.now _ _ c.args.memo.now c.args.closed.now c.requires.closed _ _ _ (λ s t. cell k.top (cell s t)) (let_composed _ _ _ _ _ _ _ _ _ _ _ k c.under_let.ensures.keeps c.requires.spot.inside c.in_ok-under.ensures.inside (rw (c.cell_parts-list.ensures.same, c.cell_parts-head.ensures.same) at c.in_ok-under.ensures.hides)) _ _ c.look-2.ensures.leaf c.look-2.ensures.cell c.in-Some-look.is)
    (λ s t ks kt. let h = behind _ _ _ _ _ _ _ _ k.top s t k.head_known ks kt made c.in_ok-made.ensures.made in (h.stands, h.placed))
