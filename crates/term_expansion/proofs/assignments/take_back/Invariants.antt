use Rattle.std.proofs.Common.{◌≡◌, ◌≤◌, ◌-◌, drop, length}
use Rattle.term_expansion.proofs.assignments.take_back.Given as goal

abbrev pub invariant-variables : goal.invariant-variables
invariant-variables l = (l.n ≤ length l.assignments) × (l.assignments ≡ drop (length l.fn.assignments - length l.assignments) l.fn.assignments)

abbrev pub decreases-variables : goal.decreases-variables
decreases-variables l = length l.assignments
