use Rattle.std.proofs.Common.{◌≡◌, ◌≤◌, ◌++◌, ℕ, List, drop, length}
use Rattle.contexts.specs.Becoming.{Look, look_of}
use Rattle.contexts.specs.Firsts.{first_for}
use Rattle.contexts.specs.Frames.{PutsBack}
use Rattle.contexts.proofs.frames.put_all.Given as goal

abbrev pub invariant-bindings : goal.invariant-bindings
invariant-bindings l = record {
  inside : l.at ≤ length l.bindings;
  back : (outer : Look) → PutsBack l.fn.before.items (look_of l.fn.images) outer → PutsBack l.before.items (look_of l.images) outer;
  put : (outer : List (ℕ × ℕ)) → ((k : ℕ) → look_of l.fn.images k ≡ first_for outer k) → (k : ℕ) → look_of l.images k ≡ first_for (drop l.at l.bindings ++ outer) k;
}

abbrev pub decreases-bindings : goal.decreases-bindings
decreases-bindings l = l.at
