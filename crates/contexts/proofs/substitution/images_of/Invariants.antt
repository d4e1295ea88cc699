use Rattle.std.proofs.Common.{◌≡◌, ◌≤◌, ℕ, drop, length, nat_eq}
use Rattle.std.specs.HashMap.{get}
use Rattle.contexts.specs.Firsts.{first_for}
use Rattle.contexts.proofs.substitution.images_of.Given as goal

abbrev pub invariant-bindings : goal.invariant-bindings
invariant-bindings l = (l.at ≤ length l.bindings) × ((k : ℕ) → get nat_eq l.images k ≡ first_for (drop l.at l.bindings) k)

abbrev pub decreases-bindings : goal.decreases-bindings
decreases-bindings l = l.at
