-- By the comparison that the literal's negation is.
use Rattle.std.proofs.Common.{◌<◌, refl, sym, subst}
use Rattle.linear_lines.specs.Comparisons.{StandsForComparison}
use Rattle.proof_store.specs.Ratios.{fraction_of_ratio}
use Rattle.rules_arith.proofs.LineLemmas.{some_below}
use Rattle.rules_arith.proofs.lines.line_of.Goals as goal

pub returns-in_default-clause-line : goal.returns-in_default-clause-line
returns-in_default-clause-line c t refers l is = c.in_default.ensures.read t refers l.comparison is.denied is.numbers

pub returns-clause-line : goal.returns-clause-line
returns-clause-line c t refers =
    let read = c.in-Some.ensures.read t refers in
    let is = c.with_ratio.ensures in (
      record { comparison = read.0; ratio = fraction_of_ratio c.args.ratio },
      record { denied = read.1; ratio = refl; numbers = read.3 },
      record {
        comparison = subst (λ x. StandsForComparison c.args.symbols.now c.args.terms.now x read.0) (sym is.comparison) read.2;
        numerator = is.numerator;
        denominator = is.denominator;
      },
    )

pub returns-clause-terms : goal.returns-clause-terms
returns-clause-terms c =
    let literal = c.requires.literal in
    let read = c.in-Some.ensures.read literal.means literal.refers in
    let is = c.with_ratio.ensures in
    let stands = subst (λ x. StandsForComparison c.args.symbols.now c.args.terms.now x read.0) (sym is.comparison) read.2 in
    record {
      first = record { means = read.0.first; refers = stands.first };
      second = record { means = read.0.second; refers = stands.second };
      some = subst (λ d. 0 < d) (sym is.denominator) (some_below (fraction_of_ratio c.args.ratio).den c.requires.lowest.over_zero);
    }
