use Rattle.std.proofs.Common.{◌≤◌, ◌^◌, arith}
use Rattle.term_pool.proofs.PairLemmas.{split_of, rest_known, items_of_two}
use Rattle.term_pool.proofs.ReadingLemmas.{reference_cell}
use Rattle.flip_keys.proofs.visiting.two_items.Goals as goal

pub cell_parts-first-requires : goal.cell_parts-first-requires
cell_parts-first-requires c =
    let above : 2 ^ 30 ≤ c.args.list = grind arith in reference_cell _ _ c.parts_of_trees.ensures above c.requires

pub cell_parts-second-requires : goal.cell_parts-second-requires
cell_parts-second-requires c =
    let above : 2 ^ 30 ≤ c.args.list = grind arith in
    let behind : 2 ^ 30 ≤ c.cell_parts-first.result.1 = grind arith in
    rw c.cell_parts-first.ensures.same
    (reference_cell _ _ c.parts_of_trees.ensures behind
    (rest_known _ _ _ _
    (split_of _ _ _ _ (reference_cell _ _ c.parts_of_trees.ensures above c.requires) c.cell_parts-first.ensures.first
    c.cell_parts-first.ensures.second)))

pub returns-clause-items : goal.returns-clause-items
returns-clause-items c =
    let above : 2 ^ 30 ≤ c.args.list = grind arith in
    let behind : 2 ^ 30 ≤ c.cell_parts-first.result.1 = grind arith in
    let one =
    split_of _ _ _ _ (reference_cell _ _ c.parts_of_trees.ensures above c.requires) c.cell_parts-first.ensures.first
    c.cell_parts-first.ensures.second in
    items_of_two _ c.one_to_one.ensures c.parts_of_trees.ensures _ _ _ _ _ one
    (split_of _ _ _ _ (reference_cell _ _ c.parts_of_trees.ensures behind (rest_known _ _ _ _ one))
    (rw c.cell_parts-first.ensures.same at c.cell_parts-second.ensures.first)
    (rw c.cell_parts-first.ensures.same at c.cell_parts-second.ensures.second)) (grind arith)
