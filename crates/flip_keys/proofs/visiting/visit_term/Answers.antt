use Rattle.std.proofs.Common.{◌≤◌, ◌^◌, arith}
use Rattle.term_pool.proofs.ReadingLemmas.{reference_cell}
use Rattle.flip_keys.proofs.visiting.visit_term.Goals as goal

pub cell_parts-requires : goal.cell_parts-requires
cell_parts-requires c =
    let above : 2 ^ 30 ≤ c.args.r = grind arith in reference_cell _ _ c.parts_of_trees.ensures above c.requires

pub visit_application-requires-clause-cell : goal.visit_application-requires-clause-cell
visit_application-requires-clause-cell c =
    let above : 2 ^ 30 ≤ c.args.r = grind arith in
    rw c.cell_parts.ensures.same (reference_cell _ _ c.parts_of_trees.ensures above c.requires)
