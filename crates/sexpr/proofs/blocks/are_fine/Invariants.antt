use Rattle.std.proofs.Common.{◌-◌, ◌≡◌, ◌≤◌, true}
use Rattle.sexpr.specs.Blocks.{AreFine}
use Rattle.sexpr.proofs.blocks.are_fine.Given as goal

abbrev pub invariant-loop-k : goal.invariant-loop-k
invariant-loop-k l = record {
  within : l.k ≤ 16;
  seen : l.fine ≡ true → AreFine l.bytes l.at l.k;
}

abbrev pub decreases-loop-k : goal.decreases-loop-k
decreases-loop-k l = 16 - l.k
