use Rattle.std.proofs.Common.{◌≡◌, take}
use Rattle.contexts.specs.Hiding.{AddsFree}
use Rattle.contexts.proofs.hiding.add_free.Given as goal

abbrev pub invariant-leaves : goal.invariant-leaves
invariant-leaves l =
    (l.terms ≡ l.fn.terms) × AddsFree l.fn.terms.pass (take l.leaf-index l.leaves) l.r l.fn.into.items l.into.items
