use Rattle.std.proofs.Common.{◌++◌, append_assoc, sym, ap}
use Rattle.rules_resolution.proofs.Tables.{goal_occurrences-more}
use Rattle.rules_resolution.proofs.table.add_goal.Goals as goal

pub loop-literal-preserved : goal.loop-literal-preserved
loop-literal-preserved c =
    rw (c.in_ok-add_literal.ensures, c.loop-literal.invariant, append_assoc)
    (ap (λ ys. c.args.found.now.items ++ ys) (sym (goal_occurrences-more c.args.premise c.loop-literal.literal-index c.args.goal.now _ c.loop-literal-test.true)))
