use Rattle.std.proofs.Common.{◌+◌, ◌^◌, arith, ap, ◌∙◌}
use Rattle.std.proofs.lemmas.List.{take_all, length-map}
use Rattle.term_pool.specs.HeightTables.{heights_of}
use Rattle.term_pool.proofs.ListingLemmas.{stands_at}
use Rattle.term_pool.proofs.HeightSteps.{first_there, second_there, second_low, heights_more, listed_cell, listed_low}
use Rattle.term_pool.proofs.heights.of_reference.Goals as goal

pub look-first-requires : goal.look-first-requires
look-first-requires c =
    rw c.deref.ensures.value
    (first_there _ _ (stands_at _ _ _ _ c.in_ok-whole.ensures.listing c.deref-c-items.ensures.value c.cells-test.true) _ c.cells.invariant)

pub look-second-requires : goal.look-second-requires
look-second-requires c =
    rw c.deref-in-cells.ensures.value
    (second_there _ _ (stands_at _ _ _ _ c.in_ok-whole.ensures.listing c.deref-c-items.ensures.value c.cells-test.true) _ c.cells.invariant)

pub of_cell-requires : goal.of_cell-requires
of_cell-requires c =
    let size = c.lists_in_order.ensures.size in
    second_low _ _ (stands_at _ _ _ _ c.in_ok-whole.ensures.listing c.deref-c-items.ensures.value c.cells-test.true) _ c.cells.invariant
    (2 ^ 30 + c.args.pass.now.view.places) (omega arith)
    (rw c.deref-c-items.ensures.value (listed_low _ c.one_to_one.ensures c.parts_of_trees.ensures _ c.in_ok-whole.ensures.listing)) _
    (c.look-second.ensures _ (c.deref-in-cells.ensures.value ∙ c.cells.invariant))

pub cells-preserved : goal.cells-preserved
cells-preserved c =
    rw (c.in_ok-push.ensures.items, c.of_cell.ensures, c.is_let.ensures)
    (heights_more _ _ (stands_at _ _ _ _ c.in_ok-whole.ensures.listing c.deref-c-items.ensures.value c.cells-test.true) _ c.cells.invariant _ _
    (rw c.deref-c-items.ensures.value (listed_cell _ _ c.in_ok-whole.ensures.listing))
    (c.look-first.ensures _ (c.deref.ensures.value ∙ c.cells.invariant))
    (c.look-second.ensures _ (c.deref-in-cells.ensures.value ∙ c.cells.invariant)))

pub look-requires : goal.look-requires
look-requires c =
    let all = rw (take_all _ _ c.cells-test.false, c.deref-c-items.ensures.value) at c.cells.invariant in
    rw (c.deref-2.ensures.value, all, length-map) (c.in_ok-whole.ensures.part _ c.requires.known.stands).before

pub returns-clause-heights : goal.returns-clause-heights
returns-clause-heights c =
    let all = rw (take_all _ _ c.cells-test.false, c.deref-c-items.ensures.value) at c.cells.invariant in
    λ t known. c.look.ensures _ (c.deref-2.ensures.value ∙ all) ∙ ap heights_of (c.in_ok-whole.ensures.part t known).is
