use Rattle.std.proofs.Common.{◌≡◌, ◌≤◌, length, drop, reverse}
use Rattle.schema_match.proofs.stack.stack_clause.Given as goal

abbrev pub invariant-literals : goal.invariant-literals
invariant-literals l = (l.left ≤ length l.clause) × (l.stack.items ≡ reverse (drop l.left l.clause))

abbrev pub decreases-literals : goal.decreases-literals
decreases-literals l = l.left
