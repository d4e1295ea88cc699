-- Private. The lines of a step of la_generic, as they are found.
use Rattle.std.specs.Prelude.{◌≡◌, List, Bool, true, false, Option, Some, None}
use Rattle.std.specs.List.{AllZip}
use Rattle.sym_table.specs.Table.{Table}
use Rattle.term_model.specs.Terms.{Term}
use Rattle.term_pool.specs.Views.{TermsView}
use Rattle.rule_model.specs.Arith.{CoefficientLine, denial, AreLines}
use Rattle.rule_model.specs.Proofs.{Fraction}
use Rattle.linear_lines.specs.declared.lines.Line.{Line}
use Rattle.linear_lines.specs.Comparisons.{IsOfNumbers}
use Rattle.linear_lines.specs.Lines.{StandsForLine}

-- the literal and the coefficient come to this line
pub record ComesToLine (t : Term) (q : Fraction) (l : CoefficientLine) : Type 0 where
  pub denied : denial t ≡ Some l.comparison
  pub ratio : l.ratio ≡ q
  pub numbers : IsOfNumbers l.comparison

-- what is found is the line, and none where there is no such
abbrev pub IsLineFound : Table → TermsView → Term → Fraction → Option Line → Type 0
IsLineFound s v t q (Some line) = (l : CoefficientLine) × ComesToLine t q l × StandsForLine s v line l
IsLineFound s v t q None = (l : CoefficientLine) → ¬ ComesToLine t q l

-- the literals and the coefficients come to some lines, for which those that were found stand; or to none
abbrev pub AreLinesFound : Table → TermsView → List Term → List Fraction → List Line → Bool → Type 0
AreLinesFound s v ts qs lines true = (ls : List CoefficientLine) × AreLines ts qs ls × AllZip (StandsForLine s v) lines ls
AreLinesFound s v ts qs lines false = (ls : List CoefficientLine) → ¬ AreLines ts qs ls
