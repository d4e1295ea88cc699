use Rattle.std.proofs.Common.{take}
use Rattle.elaborator.specs.Reached.{state_of, IsExtended}
use Rattle.elaborator.proofs.putting.add_all.Given as goal

abbrev pub invariant-steps : goal.invariant-steps
invariant-steps l = IsExtended (take l.step-index l.added) (state_of l.initial.written) (state_of l.written)
