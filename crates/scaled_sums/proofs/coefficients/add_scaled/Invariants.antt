-- The multiplied coefficients so far.
use Rattle.std.proofs.Common.{◌≡◌, ◌++◌, take, map}
use Rattle.scaled_sums.specs.Coefficients.{scale}
use Rattle.scaled_sums.proofs.coefficients.add_scaled.Given as goal

abbrev pub invariant-loop-c : goal.invariant-loop-c
invariant-loop-c l = l.sum.items ≡ l.initial.sum.items ++ map (scale l.factor) (take l.c-index l.line)
