use Rattle.std.proofs.Common.{◌+◌, ◌-◌, ◌/◌, arith}
use Rattle.rules_resolution.proofs.Ranks.{below_middle, from_middle}
use Rattle.rules_resolution.proofs.search.first_of.Goals as goal

pub loop-low-preserved-then-rank : goal.loop-low-preserved-then-rank
loop-low-preserved-then-rank c = (
  omega arith,
  c.loop-low.invariant.1,
  below_middle c.args.table.now c.first_rank-rank.result (c.loop-low.low + (c.loop-low.high - c.loop-low.low) / 2) _
      c.requires (omega arith) (rw c.rank.ensures at c.if-rank.true),
  c.loop-low.invariant.3,
)

pub loop-low-preserved : goal.loop-low-preserved
loop-low-preserved c = (
  omega arith,
  omega arith,
  c.loop-low.invariant.2,
  from_middle c.args.table.now c.first_rank-rank.result (c.loop-low.low + (c.loop-low.high - c.loop-low.low) / 2) _
      c.requires (omega arith) (rw c.rank.ensures at c.if-rank.false),
)
