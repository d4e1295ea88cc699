use Rattle.std.proofs.Common.{◌≡◌, ◌≤◌, drop, length}
use Rattle.term_expansion.specs.Assigned.{assigned_all}
use Rattle.term_expansion.proofs.assignments.assign.Given as goal

abbrev pub invariant-variables : goal.invariant-variables
invariant-variables l = (l.at ≤ length l.variables) × (l.assignments ≡ assigned_all (drop l.at l.variables) (drop l.at l.list) l.fn.assignments)

abbrev pub decreases-variables : goal.decreases-variables
decreases-variables l = l.at
