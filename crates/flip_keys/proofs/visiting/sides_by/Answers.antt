use Rattle.std.proofs.Common.{◌≡◌, ◌≢◌, arith}
use Rattle.flip_keys.proofs.Visits.{other_head, sides_by_items}
use Rattle.flip_keys.proofs.visiting.sides_by.Goals as goal

pub returns-then-number-ne-EQUAL-clause-sides : goal.returns-then-number-ne-EQUAL-clause-sides
returns-then-number-ne-EQUAL-clause-sides c =
    let apart : c.args.head ≢ 9 = grind arith in
    other_head _ c.one_to_one.ensures c.parts_of_trees.ensures c.args.head c.args.list apart

pub returns-clause-sides : goal.returns-clause-sides
returns-clause-sides c =
    let same : c.args.head ≡ 9 = grind arith in
    sides_by_items _ c.one_to_one.ensures c.parts_of_trees.ensures c.args.head c.args.list c.two_items.result same c.two_items.ensures.items
