use Rattle.std.proofs.Common.{◌-◌, ◌≤◌, length}
use Rattle.sexpr.specs.Blocks.{IsFormedTo}
use Rattle.sexpr.proofs.blocks.past_parts.Given as goal

abbrev pub invariant-loop-place : goal.invariant-loop-place
invariant-loop-place l = record {
  within : l.place ≤ length l.bytes;
  formed : IsFormedTo l.bytes l.place l.depth;
}

abbrev pub decreases-loop-place : goal.decreases-loop-place
decreases-loop-place l = length l.bytes - l.place
