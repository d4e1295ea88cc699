-- Private. Rows by references, and the rows of assertions for which they stand.
use Rattle.std.specs.Prelude.{◌≡◌, ◌≢◌, ◌⊎◌, ◌≤◌, ◌<◌, ℕ, ℤ, pos, Bool, true, false, List, [], ◌∷◌, ◌++◌}
use Rattle.std.specs.Prelude.{length, map, slice_get, All, Any, Contains, Option, Some, None}
use Rattle.std.specs.List.{AllZip}
use Rattle.sym_table.specs.Table.{Table}
use Rattle.term_model.specs.Terms.{Term}
use Rattle.term_pool.specs.Views.{TermsView, RefersTo, ReferToAll}
use Rattle.rule_model.specs.Arith.{Relation, exceeds, reaches, equals, Comparison}
use Rattle.linear_forms.specs.Forms.{IsReferred}
use Rattle.lia_filler.specs.declared.row.Row as filler
use Rattle.lia_filler.specs.Plain.{coef, IsSmallRow}
use Rattle.linear_lines.specs.declared.comparisons as code
use Rattle.linear_lines.specs.Comparisons.{StandsForComparison}
use Rattle.lia_rows.specs.declared.rows.Rows.{Rows}
use Rattle.lia_rows.specs.Columns.{AreApart}
use Rattle.lia_rows.specs.Combinations.{bound_of, coefficient_of, inequalities_of, IsSmall, AreSearched}
use Rattle.lia_rows.specs.Rows.{Row, IsRow, GivesNoRow, AreRowsOf}

-- the row of an assertion, and that it gives none
abbrev pub IsRowRead : Table → TermsView → Term → Option code.Comparison.Comparison → Type 0
IsRowRead s v t (Some l) = (row : Row) × (row.assertion ≡ t) × IsRow row × StandsForComparison s v l row.comparison
IsRowRead s v t None = GivesNoRow t

abbrev pub is_equality : Relation → Bool
is_equality equals = true
is_equality exceeds = false
is_equality reaches = false

-- The row has the coefficients of the terms of the columns, and all other coefficients are 0.
pub record StandsForRow (s : Table) (v : TermsView) (columns : List ℕ) (found : filler.Row) (row : Row) : Type 0 where
  pub equal_is : found.equal ≡ is_equality row.comparison.relation
  pub bound_is : found.bound ≡ bound_of row
  pub right : (column r : ℕ) (t : Term) → slice_get columns column ≡ Some r → RefersTo s v r t → coefficient_of t row ≡ coef column found
  pub beyond : (column : ℕ) → length columns ≤ column → column < 4 → coef column found ≡ pos 0
  pub others : (r : ℕ) (t : Term) → RefersTo s v r t → ¬ Contains columns r → coefficient_of t row ≡ pos 0
  pub covered : (t : Term) → (coefficient_of t row ≡ pos 0) ⊎ IsReferred s v t
  pub narrow : IsSmallRow found

-- the reference stands for a term whose coefficient is not 0 in some row
abbrev pub IsColumn : Table → TermsView → List Row → ℕ → Type 0
IsColumn s v rows r = (t : Term) × RefersTo s v r t × Any (λ row. coefficient_of t row ≢ pos 0) rows

pub record AreFound (s : Table) (v : TermsView) (found : Rows) (rows : List Row) : Type 0 where
  pub each : AllZip (StandsForRow s v found.columns.items) found.rows.items rows
  pub assertions : ReferToAll s v found.assertions.items (map (λ (row : Row). row.assertion) rows)
  pub columns : All (IsColumn s v rows) found.columns.items
  pub apart : AreApart found.columns.items
  pub few_columns : length found.columns.items ≤ 4
  pub few : inequalities_of rows ≤ 8
  pub small : All IsSmall rows

-- however the rows go on, they are not searched
abbrev pub AreTooMany : List Row → Type 0
AreTooMany rows = (rest : List Row) → ¬ AreSearched (rows ++ rest)

-- the rows so far, or that they are too many
abbrev pub AreMoreFound : Table → TermsView → Rows → List Row → Bool → Type 0
AreMoreFound s v new rows true = AreFound s v new rows
AreMoreFound s v new rows false = AreTooMany rows

-- what comes of one more row, and of one more assertion
abbrev pub IsRowAdded : Table → TermsView → List Row → Row → Rows → Bool → Type 0
IsRowAdded s v rows row new going = AreMoreFound s v new (rows ++ row ∷ []) going

abbrev pub IsAssertionAdded : Table → TermsView → Term → List Row → Rows → Bool → Type 0
IsAssertionAdded s v t rows new going = (more : List Row) × AreRowsOf (t ∷ []) more × AreMoreFound s v new (rows ++ more) going

-- what is found of all assertions
abbrev pub TellsRows : Table → TermsView → List Term → Option Rows → Type 0
TellsRows s v ts (Some found) = (rows : List Row) × AreRowsOf ts rows × AreFound s v found rows
TellsRows s v ts None = (rows : List Row) → AreRowsOf ts rows → ¬ AreSearched rows

-- one item more, where its multiplier is not 0
pub record IsUsedAdded {A : Type 0} (m : ℤ) (old : List A) (item : A) (new : List A) : Type 0 where
  pub used : m ≢ pos 0 → new ≡ old ++ item ∷ []
  pub other : m ≡ pos 0 → new ≡ old
