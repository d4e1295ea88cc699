use Rattle.std.proofs.Common.{◌≡◌, ◌≤◌, length, drop, reverse}
use Rattle.rules_simplify.proofs.rewrites.stack_up.Given as goal

abbrev pub invariant-items : goal.invariant-items
invariant-items l = (l.left ≤ length l.list) × (l.stack.items ≡ reverse (drop l.left l.list))

abbrev pub decreases-items : goal.decreases-items
decreases-items l = l.left
