-- A denominator at a time.
use Rattle.std.proofs.Common.{ℕ, ◌≤◌, IfNone, sym, subst}
use Rattle.rule_model.specs.Arith.{limit}
use Rattle.linear_lines.specs.Lines.{IsMultiple}
use Rattle.linear_lines.proofs.MultipleLemmas.{least_start, least_more, wide_multiple}
use Rattle.linear_lines.proofs.multiples.least_multiple.Goals as goal

pub loop-l-init : goal.loop-l-init
loop-l-init c = least_start

pub returns-in_err-multiple-clause-wide : goal.returns-in_err-multiple-clause-wide
returns-in_err-multiple-clause-wide c =
    subst (λ o. IfNone o ((m : ℕ) → IsMultiple c.args.lines.now m → limit ≤ m)) (sym c.from_residual.ensures)
    (λ m h. wide_multiple c.args.lines.now c.loop-l.l-index c.loop-l.multiple limit m c.l-item.result c.loop-l-test.true c.l-item.is c.loop-l.invariant c.in_err-multiple.ensures.wide h)

pub loop-l-preserved : goal.loop-l-preserved
loop-l-preserved c =
    least_more c.args.lines.now c.loop-l.l-index c.loop-l.multiple c.in_ok-multiple.multiple c.l-item.result c.loop-l-test.true c.l-item.is c.loop-l.invariant c.in_ok-multiple.ensures.some
