-- Public. Plain combinations of rows, which show that the rows contradict each other, and what rows are searched for one.
use Rattle.std.specs.Prelude.{ℕ, ℤ, pos, ◌≡◌, ◌≢◌, ◌+◌, ◌≤◌, ◌^◌, ◌+ℤ◌, ◌*ℤ◌, ◌≤ℤ◌, ◌<ℤ◌, unsigned_abs, List, [], ◌∷◌, length, All, Any, Contains}
use Rattle.std.specs.List.{AllZip}
use Rattle.term_model.specs.Terms.{Term}
use Rattle.rule_model.specs.Arith.{Relation, exceeds, reaches, equals, coefficient_in, bound_in}
use Rattle.rule_model.specs.Weights.{weight}
use Rattle.lia_rows.specs.Rows.{Row}

-- what a row has of an opaque term, and what its sum is at least, or equal to
abbrev pub coefficient_of : Term → Row → ℤ
coefficient_of u row = coefficient_in row.comparison u

abbrev pub bound_of : Row → ℤ
bound_of row = bound_in row.comparison

-- a number of each row, multiplied by the multiplier of the row, added
abbrev pub multiplied : (Row → ℤ) → List Row → List ℤ → ℤ
multiplied number [] ms = pos 0
multiplied number (row ∷ rows) [] = pos 0
multiplied number (row ∷ rows) (m ∷ ms) = m *ℤ number row +ℤ multiplied number rows ms

-- the multiplier of an inequality is not negative, since that would turn it round
abbrev pub MayMultiply : Row → ℤ → Type 0
MayMultiply row m = row.comparison.relation ≢ equals → pos 0 ≤ℤ m

-- One whole number for each row, of any size, by which the rows add up to: 0 is at least a number over 0. No bound is rounded.
pub record IsPlainCombination (rows : List Row) (ms : List ℤ) : Type 0 where
  pub signs : AllZip MayMultiply rows ms
  pub cancels : (u : Term) → multiplied (coefficient_of u) rows ms ≡ pos 0
  pub over : pos 0 <ℤ multiplied bound_of rows ms

-- how many inequalities there are, an equality counted as two
abbrev pub inequalities_in : Relation → ℕ
inequalities_in equals = 2
inequalities_in exceeds = 1
inequalities_in reaches = 1

abbrev pub inequalities_of : List Row → ℕ
inequalities_of [] = 0
inequalities_of (row ∷ rows) = inequalities_in row.comparison.relation + inequalities_of rows

-- the opaque terms whose coefficient is not 0 in some row are at most so many
pub record HaveColumns (rows : List Row) (most : ℕ) : Type 0 where
  pub columns : List Term
  pub few : length columns ≤ most
  pub each : (u : Term) → Any (λ row. coefficient_of u row ≢ pos 0) rows → Contains columns u

-- what numbers a row may have
pub record IsSmall (row : Row) : Type 0 where
  pub coefficients : (u : Term) → unsigned_abs (coefficient_of u row) ≤ 64
  pub light : weight row.comparison.first + weight row.comparison.second + 1 ≤ 262144

-- the rows of which a combination is searched for
pub record AreSearched (rows : List Row) : Type 0 where
  pub few : inequalities_of rows ≤ 8
  pub columns : HaveColumns rows 4
  pub small : All IsSmall rows

-- what a search returns is no larger
abbrev pub AreNarrow : List ℤ → Type 0
AreNarrow ms = All (λ m. unsigned_abs m ≤ 2 ^ 105) ms
