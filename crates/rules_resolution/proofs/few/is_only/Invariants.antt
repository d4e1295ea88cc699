use Rattle.rules_resolution.specs.Scans.{HasNoOtherBelow}
use Rattle.rules_resolution.proofs.few.is_only.Given as goal

abbrev pub invariant-loop-other : goal.invariant-loop-other
invariant-loop-other l = HasNoOtherBelow l.falses l.clause l.literal l.other-index
