-- The lines so far.
use Rattle.std.proofs.Common.{◌≡◌, take, List}
use Rattle.std.specs.List.{AllZip}
use Rattle.rule_model.specs.Arith.{CoefficientLine}
use Rattle.linear_lines.specs.Lines.{StandsForLine}
use Rattle.line_judging.specs.Totals.{IsTotal}
use Rattle.line_judging.proofs.sums.add_up.Given as goal

abbrev pub invariant-loop-line : goal.invariant-loop-line
invariant-loop-line l =
    record {
      same : l.terms ≡ l.initial.terms;
      total : (ks : List CoefficientLine) → AllZip (StandsForLine l.symbols l.initial.terms) (take l.line-index l.lines) ks → IsTotal l.symbols l.initial.terms l.multiple ks l.scratch.sum.items l.total;
    }
