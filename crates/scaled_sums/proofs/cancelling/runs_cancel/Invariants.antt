-- The run so far and the rest.
use Rattle.std.proofs.Common.{drop}
use Rattle.scaled_sums.specs.Runs.{IsRunOfTerm}
use Rattle.scaled_sums.proofs.cancelling.runs_cancel.Given as goal

abbrev pub invariant-loop-c : goal.invariant-loop-c
invariant-loop-c l = IsRunOfTerm l.sum l.current l.so_far (drop l.c-index l.sum)
