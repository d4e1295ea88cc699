use Rattle.std.proofs.Common.{◌≡◌, take}
use Rattle.term_expansion.specs.Expanding.{key_of}
use Rattle.term_expansion.proofs.expanding.key.Given as goal

abbrev pub invariant-leaves : goal.invariant-leaves
invariant-leaves l = l.key.items ≡ key_of l.fn.r l.fn.assignments (take l.k-index l.leaves)
