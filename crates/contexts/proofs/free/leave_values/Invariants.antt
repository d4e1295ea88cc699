use Rattle.std.proofs.Common.{◌≡◌, ◌-◌, ◌^◌, vec_len}
use Rattle.contexts.proofs.LeavingValues.{IsLeaving}
use Rattle.contexts.proofs.free.leave_values.Given as goal

abbrev pub invariant-bindings : goal.invariant-bindings
invariant-bindings l =
    (l.terms ≡ l.fn.terms) × IsLeaving l.fn.terms.pass l.leaf l.fn.list l.rest l.fn.left.items l.left.items l.hidden

abbrev pub decreases-bindings : goal.decreases-bindings
decreases-bindings l = 2 ^ 64 - vec_len l.left
