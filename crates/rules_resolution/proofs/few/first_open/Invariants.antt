use Rattle.rules_resolution.specs.Scans.{AreFalseBelow}
use Rattle.rules_resolution.proofs.few.first_open.Given as goal

abbrev pub invariant-loop-place : goal.invariant-loop-place
invariant-loop-place l = AreFalseBelow l.falses l.clause l.place
