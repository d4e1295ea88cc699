use Rattle.rules_resolution.proofs.Scanning.{no_other_more}
use Rattle.rules_resolution.proofs.few.is_only.Goals as goal

pub loop-other-preserved : goal.loop-other-preserved
loop-other-preserved c =
    no_other_more c.args.falses.now c.args.clause.now c.args.literal c.loop-other.other-index _ _ c.loop-other-test.true c.loop-other.invariant c.is_another.ensures c.if-is_another.false
