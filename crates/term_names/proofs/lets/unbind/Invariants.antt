use Rattle.std.proofs.Common.{◌≡◌, ◌≤◌, ◌-◌, drop}
use Rattle.term_names.proofs.lets.unbind.Given as goal

abbrev pub invariant-variables : goal.invariant-variables
invariant-variables l = (l.left ≤ l.count) × (l.names.scope ≡ drop (l.count - l.left) l.fn.names.scope) × (l.names.own ≡ l.fn.names.own)

abbrev pub decreases-variables : goal.decreases-variables
decreases-variables l = l.left
