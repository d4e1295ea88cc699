use Rattle.std.proofs.Common.{◌≡◌, ℕ, None, true, take}
use Rattle.contexts.specs.Closed.{has_plain}
use Rattle.contexts.specs.Firsts.{first_for}
use Rattle.contexts.proofs.closed.has_plain_leaf.Given as goal

abbrev pub invariant-bindings : goal.invariant-bindings
invariant-bindings l = (k : ℕ) → has_plain l.closed k ≡ true → first_for (take l.binding-index l.bindings) k ≡ None
