-- The least multiple so far.
use Rattle.std.proofs.Common.{take}
use Rattle.linear_lines.specs.Lines.{IsLeast}
use Rattle.linear_lines.proofs.multiples.least_multiple.Given as goal

abbrev pub invariant-loop-l : goal.invariant-loop-l
invariant-loop-l l = IsLeast (take l.l-index l.lines) l.multiple
