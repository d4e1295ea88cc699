use Rattle.std.proofs.Common.{take, All, Contains}
use Rattle.rules_clausal.proofs.sorting.has_each.Given as goal

abbrev pub invariant-loop-literal : goal.invariant-loop-literal
invariant-loop-literal l = All (Contains l.sorted) (take l.literal-index l.clause)
