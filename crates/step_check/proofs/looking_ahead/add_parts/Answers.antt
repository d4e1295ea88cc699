use Rattle.std.proofs.Common.{◌^◌, ◌≤◌}
use Rattle.step_check.proofs.AheadLemmas.{known_cell, no_leaf, parts_known}
use Rattle.step_check.proofs.looking_ahead.add_parts.Goals as goal

pub cell_parts-first-requires : goal.cell_parts-first-requires
cell_parts-first-requires c = known_cell c.args.terms.now.pass c.parts_of_trees.ensures c.args.r c.requires.cell (no_leaf _ c.args.r c.is_leaf.ensures c.if-is_leaf.false)

pub returns-clause-known : goal.returns-clause-known
returns-clause-known c =
    let p = c.args.terms.now.pass in
    let high : 2 ^ 30 ≤ c.args.r = no_leaf _ c.args.r c.is_leaf.ensures c.if-is_leaf.false in
    let both = parts_known p c.args.r _ _ (known_cell p c.parts_of_trees.ensures c.args.r c.requires.cell high) c.cell_parts-first.ensures.first c.cell_parts-first.ensures.second in
    c.add_cell-2.ensures.known c.args.terms.now both.1 (c.in_ok-add_cell.ensures.known c.args.terms.now both.0 c.requires.before)
