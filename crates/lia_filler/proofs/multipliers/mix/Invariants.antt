-- The entries so far.
use Rattle.std.proofs.Common.{◌≡◌, take, length}
use Rattle.lia_filler.specs.Mixing.{mixed}
use Rattle.lia_filler.proofs.multipliers.mix.Given as goal

abbrev pub invariant-loop-i : goal.invariant-loop-i
invariant-loop-i l = (length l.sum ≡ 8) × (take l.i l.sum ≡ take l.i (mixed l.a l.x l.b l.y))
