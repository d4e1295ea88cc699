use Rattle.std.proofs.Common.{◌≡◌, ◌-◌, ◌^◌, vec_len}
use Rattle.contexts.proofs.HidingLeaves.{IsListing}
use Rattle.contexts.proofs.hiding.bound_by.Given as goal

abbrev pub invariant-bindings : goal.invariant-bindings
invariant-bindings l = (l.terms ≡ l.fn.terms) × IsListing l.fn.terms.pass l.fn.list l.rest l.leaves.items

abbrev pub decreases-bindings : goal.decreases-bindings
decreases-bindings l = 2 ^ 64 - vec_len l.leaves
