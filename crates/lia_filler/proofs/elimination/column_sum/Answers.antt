-- The multipliers are below the limit of all columns.
use Rattle.std.proofs.Common.{◌^◌, ◌≤◌, unsigned_abs, arith}
use Rattle.std.proofs.lemmas.List.Elements.{All-weaker}
use Rattle.lia_filler.specs.Elimination.{multiplier_limit}
use Rattle.lia_filler.proofs.Derived.{limits_before}
use Rattle.lia_filler.proofs.elimination.column_sum.Goals as goal

pub combine-requires-clause-small : goal.combine-requires-clause-small
combine-requires-clause-small c =
    All-weaker (λ m. unsigned_abs m ≤ multiplier_limit c.args.column) (λ m. unsigned_abs m ≤ 2 ^ 105)
    (λ m h. omega (arith, h, (limits_before c.args.column c.requires.column).0)) c.args.multipliers.now c.requires.derived.small
