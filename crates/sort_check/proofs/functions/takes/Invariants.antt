use Rattle.std.proofs.Common.{slice_get}
use Rattle.sort_check.proofs.Leaves.{AreAlikeBelow, sorts_at}
use Rattle.sort_check.proofs.functions.takes.Given as goal

abbrev pub invariant-arguments : goal.invariant-arguments
invariant-arguments l = AreAlikeBelow (sorts_at (slice_get l.symbols.leaves l.head)) l.sorts l.i
