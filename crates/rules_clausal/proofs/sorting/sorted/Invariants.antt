use Rattle.std.proofs.Common.{◌≡◌, take}
use Rattle.rules_clausal.proofs.sorting.sorted.Given as goal

abbrev pub invariant-loop-literal : goal.invariant-loop-literal
invariant-loop-literal l = l.literals.items ≡ take l.literal-index l.clause
