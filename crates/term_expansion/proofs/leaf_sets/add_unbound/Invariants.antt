use Rattle.std.proofs.Common.{take}
use Rattle.term_expansion.specs.Free.{AddsUnbound}
use Rattle.term_expansion.proofs.leaf_sets.add_unbound.Given as goal

abbrev pub invariant-leaves : goal.invariant-leaves
invariant-leaves l = AddsUnbound (take l.k-index l.leaves) l.bound l.initial.found.keys l.found.keys
