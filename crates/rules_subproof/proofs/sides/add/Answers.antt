use Rattle.rules_subproof.proofs.SideTables.{adds_sides}
use Rattle.rules_subproof.proofs.sides.add.Goals as goal

pub returns : goal.returns
returns c =
    rw (c.in_ok-insert-2.ensures.keys, c.in_ok-insert.ensures.keys) (adds_sides c.args.table.now.keys c.args.left c.args.right)
