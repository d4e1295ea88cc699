-- Private. Lines that are added up, one after another.
use Rattle.std.specs.Prelude.{◌≡◌, ◌≤◌, ◌<◌, ◌+◌, ◌++◌, ◌∷◌, [], ℕ, ℤ, List, Option, Some, None}
use Rattle.sym_table.specs.Table.{Table}
use Rattle.term_pool.specs.Views.{TermsView}
use Rattle.rule_model.specs.Arith.{CoefficientLine, line_weight, lines_weight, limit}
use Rattle.scaled_sums.specs.declared.coefficients.Coefficient.{Coefficient}
use Rattle.linear_lines.specs.Lines.{IsSumOf}
use Rattle.line_judging.specs.declared.sums.Total.{Total}

-- the lines come to these coefficients and this, and their weight is not too wide
pub record IsTotal (s : Table) (v : TermsView) (multiple : ℕ) (ls : List CoefficientLine) (cs : List Coefficient) (total : Total) : Type 0 where
  pub sum : IsSumOf s v multiple ls cs total.bound
  pub weight_is : total.weight ≡ lines_weight multiple ls
  pub narrow : total.weight < limit

-- what lines come to with one more
abbrev pub IsTotalWith : Table → TermsView → ℕ → CoefficientLine → List Coefficient → Total → List Coefficient → Option Total → Type 0
IsTotalWith s v multiple l old total new None = limit ≤ line_weight multiple l + total.weight
IsTotalWith s v multiple l old total new (Some more) =
    (ls : List CoefficientLine) → IsTotal s v multiple ls old total → IsTotal s v multiple (ls ++ l ∷ []) new more

-- what all lines come to
abbrev pub IsWholeSum : Table → TermsView → ℕ → List CoefficientLine → List Coefficient → Option ℤ → Type 0
IsWholeSum s v multiple ls cs None = limit ≤ lines_weight multiple ls
IsWholeSum s v multiple ls cs (Some bound) = (lines_weight multiple ls < limit) × IsSumOf s v multiple ls cs bound
