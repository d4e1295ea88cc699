-- The coefficients so far.
use Rattle.std.proofs.Common.{◌≡◌, map, take}
use Rattle.line_judging.specs.LineForms.{as_sum}
use Rattle.line_judging.proofs.forms.copy.Given as goal

abbrev pub invariant-loop-c : goal.invariant-loop-c
invariant-loop-c l = l.into.items ≡ map as_sum (take l.c-index l.from)
