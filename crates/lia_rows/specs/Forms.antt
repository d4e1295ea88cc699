-- Private. The linear form of a comparison, as it is found.
use Rattle.std.specs.Prelude.{◌≡◌, ◌≤◌, ◌<◌, ◌+◌, ◌-ℤ◌, ℕ, ℤ, unsigned_abs, List, All, Option, Some, None}
use Rattle.sym_table.specs.Table.{Table}
use Rattle.term_pool.specs.Views.{TermsView}
use Rattle.rule_model.specs.Arith.{Comparison, coefficient_in}
use Rattle.rule_model.specs.LinearForms.{constant}
use Rattle.rule_model.specs.Weights.{weight}
use Rattle.linear_forms.specs.declared.nodes.Coefficient.{Coefficient}
use Rattle.linear_forms.specs.Forms.{ListsCoefficients}
use Rattle.lia_rows.specs.Combinations.{IsSmall}
use Rattle.lia_rows.specs.Rows.{Row}

abbrev pub term_of : Coefficient → ℕ
term_of c = c.term

abbrev pub IsNarrow : Coefficient → Type 0
IsNarrow c = unsigned_abs c.number ≤ 64

-- the constant of the first term less that of the second, and the coefficients of the difference, all of them within the limits
pub record IsSmallForm (s : Table) (v : TermsView) (c : Comparison) (n : ℤ) (cs : List Coefficient) : Type 0 where
  pub constant_is : n ≡ constant c.first -ℤ constant c.second
  pub coefficients : ListsCoefficients s v cs (coefficient_in c)
  pub narrow : All IsNarrow cs
  pub light : weight c.first + weight c.second + 1 ≤ 262144
  pub low : unsigned_abs n < 262144

-- the numbers of a comparison are not within the limits
abbrev pub IsTooLarge : Comparison → Type 0
IsTooLarge c = (row : Row) → row.comparison ≡ c → ¬ IsSmall row

abbrev pub IsFormFound : Table → TermsView → Comparison → Option ℤ → List Coefficient → Type 0
IsFormFound s v c (Some n) cs = IsSmallForm s v c n cs
IsFormFound s v c None cs = IsTooLarge c
