-- More than eight rows count as more than eight.
use Rattle.std.proofs.Common.{arith}
use Rattle.lia_filler.proofs.Enough.{few_rows}
use Rattle.lia_filler.proofs.limits.are_within_limits.Goals as goal

pub returns-then-rows-gt-MOST_ROWS : goal.returns-then-rows-gt-MOST_ROWS
returns-then-rows-gt-MOST_ROWS c =
    (λ h. absurd cc, λ h. absurd (omega (arith, h.0, few_rows c.args.rows.now)))
