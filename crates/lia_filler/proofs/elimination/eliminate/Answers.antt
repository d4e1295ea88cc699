-- What one more makes.
use Rattle.std.proofs.Common.{Contains}
use Rattle.lia_filler.proofs.Made.{made_more}
use Rattle.lia_filler.proofs.elimination.eliminate.Goals as goal

pub highs-preserved : goal.highs-preserved
highs-preserved c = record {
  derived = c.in_ok-add_made.ensures.derived;
  made =
      made_more c.args.rows.now c.args.column c.args.derived.now c.args.derived.now c.highs.x-index _ (Contains c.highs.made.items)
      (Contains c.add_made.new.made.items) c.highs-test.true c.in_ok-add_made.ensures.kept c.highs.invariant.made c.in_ok-add_made.ensures.pairs
      c.in_ok-add_made.ensures.level;
}
