use Rattle.std.proofs.Common.{take}
use Rattle.std.specs.HashMap.{get}
use Rattle.std.specs.Prelude.{nat_eq}
use Rattle.elab_resolution.specs.Counted.{AreTops}
use Rattle.elab_resolution.proofs.tops.tops_of.Given as goal

abbrev pub invariant-literals : goal.invariant-literals
invariant-literals l = AreTops (take l.literal-index l.literals) (get nat_eq l.tops)
