use Rattle.std.proofs.Common.{◌-◌, ◌≤◌, length}
use Rattle.sexpr.specs.Blocks.{IsFormedSoFar}
use Rattle.sexpr.proofs.blocks.is_formed.Given as goal

abbrev pub invariant-loop-place : goal.invariant-loop-place
invariant-loop-place l = record {
  within : l.place ≤ length l.bytes;
  formed : IsFormedSoFar l.bytes l.place l.inside l.depth;
}

abbrev pub decreases-loop-place : goal.decreases-loop-place
decreases-loop-place l = length l.bytes - l.place
