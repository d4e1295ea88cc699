-- The pairs with one more.
use Rattle.std.proofs.Common.{Contains}
use Rattle.lia_filler.proofs.Made.{pairs_more}
use Rattle.lia_filler.proofs.elimination.add_pairs.Goals as goal

pub lows-preserved : goal.lows-preserved
lows-preserved c = record {
  derived = c.in_ok-add_pair.ensures.derived;
  kept = λ z h. c.in_ok-add_pair.ensures.kept z (c.lows.invariant.kept z h);
  pairs =
      pairs_more c.args.rows.now c.args.column c.args.x.now c.args.derived.now c.lows.y-index _ (Contains c.lows.made.items)
      (Contains c.add_pair.new.made.items) c.lows-test.true c.in_ok-add_pair.ensures.kept c.lows.invariant.pairs c.in_ok-add_pair.ensures.pair;
}
