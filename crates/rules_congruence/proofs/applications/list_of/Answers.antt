use Rattle.std.proofs.Common.{◌<◌, ◌≤◌, ◌^◌, arith}
use Rattle.term_pool.proofs.Depth.{is_cell}
use Rattle.rules_congruence.proofs.CutLemmas.{cell_list, cell_some, leaf_none}
use Rattle.rules_congruence.proofs.applications.list_of.Goals as goal

pub returns-then-is_leaf-clause-none : goal.returns-then-is_leaf-clause-none
returns-then-is_leaf-clause-none c s t refers fails =
    let low : c.args.r < 2 ^ 30 = grind arith in leaf_none s c.args.terms.now c.one_to_one.ensures c.args.r t low refers fails

pub cell_parts-requires : goal.cell_parts-requires
cell_parts-requires c =
    let high : 2 ^ 30 ≤ c.args.r = grind arith in
    is_cell c.args.terms.now.pass c.parts_of_trees.ensures c.args.r c.requires.tree c.requires.stands high

pub returns-clause-list : goal.returns-clause-list
returns-clause-list c s t refers fails =
    let high : 2 ^ 30 ≤ c.args.r = grind arith in
    cell_list s c.args.terms.now c.parts_of_trees.ensures c.args.r c.cell_parts.result.1 t high c.cell_parts.ensures.second refers fails

pub returns-clause-some : goal.returns-clause-some
returns-clause-some c s t refers fails =
    let high : 2 ^ 30 ≤ c.args.r = grind arith in cell_some s c.args.terms.now c.parts_of_trees.ensures c.args.r t high refers fails
