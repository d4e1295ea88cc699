-- One more makes nothing that is over 0.
use Rattle.lia_filler.specs.Elimination.{IsNotOver}
use Rattle.lia_filler.proofs.Made.{made_more}
use Rattle.lia_filler.proofs.last_column.first_over.Goals as goal

pub highs-preserved : goal.highs-preserved
highs-preserved c =
    made_more c.args.rows.now 3 c.args.derived.now c.args.derived.now c.highs.x-index _ (IsNotOver c.args.rows.now) (IsNotOver c.args.rows.now)
    c.highs-test.true (λ z h. h) c.highs.invariant c.in_default.ensures.pairs c.in_default.ensures.level
