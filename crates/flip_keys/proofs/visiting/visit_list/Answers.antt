use Rattle.std.proofs.Common.{◌≤◌, ◌^◌, arith}
use Rattle.term_pool.proofs.PairLemmas.{split_of}
use Rattle.term_pool.proofs.ReadingLemmas.{reference_cell}
use Rattle.flip_keys.proofs.Visits.{list_part, list_done}
use Rattle.flip_keys.proofs.visiting.visit_list.Goals as goal

pub cell_parts-first-requires : goal.cell_parts-first-requires
cell_parts-first-requires c =
    let above : 2 ^ 30 ≤ c.args.r = grind arith in reference_cell _ _ c.parts_of_trees.ensures above c.requires

pub returns-in-Part-clause-visit : goal.returns-in-Part-clause-visit
returns-in-Part-clause-visit c =
    let above : 2 ^ 30 ≤ c.args.r = grind arith in
    let split = split_of _ _ _ _ (reference_cell _ _ c.parts_of_trees.ensures above c.requires) c.cell_parts-first.ensures.first c.cell_parts-first.ensures.second in
    list_part _ c.one_to_one.ensures c.parts_of_trees.ensures c.args.memo.now _ _ _ _ split (rw c.in-Part.is at c.numbers_of.ensures)

pub returns-in-Numbers-clause-visit : goal.returns-in-Numbers-clause-visit
returns-in-Numbers-clause-visit c =
    let above : 2 ^ 30 ≤ c.args.r = grind arith in
    let split = split_of _ _ _ _ (reference_cell _ _ c.parts_of_trees.ensures above c.requires) c.cell_parts-first.ensures.first c.cell_parts-first.ensures.second in
    list_done _ c.one_to_one.ensures c.parts_of_trees.ensures c.args.memo.now _ _ _ _ _ split (rw c.in-Numbers.is at c.numbers_of.ensures)
