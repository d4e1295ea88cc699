use Rattle.std.proofs.Common.{length, ◌-◌, ◌≤◌}
use Rattle.sexpr.specs.OpenSoFar.{IsOpenAfter}
use Rattle.sexpr.proofs.brackets.first_fault.Given as goal

abbrev pub invariant-loop-place : goal.invariant-loop-place
invariant-loop-place l = record {
  within : l.place ≤ length l.bytes;
  so_far : IsOpenAfter l.bytes l.bytes l.place l.lists;
}

abbrev pub decreases-loop-place : goal.decreases-loop-place
decreases-loop-place l = length l.bytes - l.place
