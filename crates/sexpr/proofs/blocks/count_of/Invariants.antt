use Rattle.std.proofs.Common.{◌-◌, ◌≡◌, ◌≤◌}
use Rattle.sexpr.specs.Blocks.{count_of}
use Rattle.sexpr.proofs.blocks.count_of.Given as goal

abbrev pub invariant-loop-k : goal.invariant-loop-k
invariant-loop-k l = record {
  within : l.k ≤ 16;
  few : l.count ≤ l.k;
  counted : l.count ≡ count_of l.byte l.bytes l.at l.k;
}

abbrev pub decreases-loop-k : goal.decreases-loop-k
decreases-loop-k l = 16 - l.k
