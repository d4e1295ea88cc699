-- Public. Lines by references, their linear forms, and what they come to when they are added up.
use Rattle.std.specs.Prelude.{◌≡◌, ◌≢◌, ◌⊎◌, ◌≤◌, ◌<◌, ℕ, ℤ, pos, ◌+◌, ◌*◌, ◌/◌, ◌-ℤ◌, ◌<ℤ◌, max, unsigned_abs, List, All}
use Rattle.sym_table.specs.Table.{Table}
use Rattle.term_model.specs.Terms.{Term}
use Rattle.term_pool.specs.Views.{TermsView, RefersTo, IsTerm}
use Rattle.rule_model.specs.Arith.{Comparison, coefficient_in, CoefficientLine, IsEquation, Divides, added_coefficient, IsAddedBound, lines_weight}
use Rattle.rule_model.specs.LinearForms.{constant}
use Rattle.rule_model.specs.Weights.{weight}
use Rattle.scaled_sums.specs.declared.coefficients.Coefficient.{Coefficient}
use Rattle.scaled_sums.specs.Coefficients.{sum_at, sizes_of}
use Rattle.linear_lines.specs.declared.lines.Line.{Line}
use Rattle.linear_lines.specs.declared.lines.LineForm.{LineForm}
use Rattle.linear_lines.specs.Comparisons.{StandsForComparison}

-- the line stands for the comparison with its coefficient
pub record StandsForLine (s : Table) (v : TermsView) (line : Line) (l : CoefficientLine) : Type 0 where
  pub comparison : StandsForComparison s v line.comparison l.comparison
  pub numerator : line.numerator ≡ l.ratio.num
  pub denominator : line.denominator ≡ unsigned_abs l.ratio.den

-- a common multiple of the denominators, and one that divides each other
pub record IsMultiple (lines : List Line) (n : ℕ) : Type 0 where
  pub over : 0 < n
  pub each : All (λ (l : Line). Divides l.denominator n) lines

pub record IsLeast (lines : List Line) (n : ℕ) : Type 0 where
  pub multiple : IsMultiple lines n
  pub least : (m : ℕ) → IsMultiple lines m → Divides n m

-- the weight of a line by the weight of its terms
abbrev pub own_weight : ℕ → Line → ℕ → ℕ
own_weight multiple line plain =
    max (unsigned_abs line.numerator) 1 * (multiple / line.denominator) * (plain + 1) + multiple

-- a reference stands for the term
pub record IsReferred (s : Table) (v : TermsView) (t : Term) : Type 0 where
  pub reference : ℕ
  pub refers : RefersTo s v reference t

-- The list has for each term this coefficient. What no reference stands for has none.
pub record HasCoefficients (s : Table) (v : TermsView) (cs : List Coefficient) (f : Term → ℤ) : Type 0 where
  pub right : (r : ℕ) (t : Term) → RefersTo s v r t → f t ≡ sum_at cs r
  pub covered : (t : Term) → (f t ≡ pos 0) ⊎ IsReferred s v t
  pub terms : All (λ (c : Coefficient). IsTerm s v c.term) cs

-- the linear form of the first term of a comparison less that of the second
pub record IsFormOf (s : Table) (v : TermsView) (c : Comparison) (numbers : LineForm) (cs : List Coefficient) : Type 0 where
  pub weight_is : numbers.weight ≡ weight c.first + weight c.second
  pub constant_is : numbers.constant ≡ constant c.first -ℤ constant c.second
  pub coefficients : HasCoefficients s v cs (coefficient_in c)

-- the sum of multiplied lines: its coefficients and its bound, whose numbers are within the weight of the lines
pub record IsSumOf (s : Table) (v : TermsView) (multiple : ℕ) (ls : List CoefficientLine) (cs : List Coefficient) (bound : ℤ) : Type 0 where
  pub coefficients : HasCoefficients s v cs (added_coefficient multiple ls)
  pub bound_is : IsAddedBound multiple ls bound
  pub light : unsigned_abs bound + sizes_of cs ≤ lines_weight multiple ls

-- what la_generic asks of the sum
pub record IsAbsurd (multiple : ℕ) (ls : List CoefficientLine) (bound : ℤ) : Type 0 where
  pub cancelled : (u : Term) → added_coefficient multiple ls u ≡ pos 0
  pub absurd_bound : (pos 0 <ℤ bound) ⊎ (All IsEquation ls × (bound ≢ pos 0))
