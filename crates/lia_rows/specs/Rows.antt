-- Public. The rows that assertions give: what they say as comparisons of terms of Int (Alethe specification, "List of rules":
-- la_generic).
use Rattle.std.specs.Prelude.{◌≡◌, ◌≢◌, ◌≤◌, ℕ, List, [], ◌∷◌, Some}
use Rattle.term_model.specs.declared.symbols.Sort.{Sort}
use Rattle.term_model.specs.Heights.{height}
use Rattle.term_model.specs.Sorts.{IsOf}
use Rattle.term_model.specs.Terms.{Term, not_of}
use Rattle.rule_model.specs.Arith.{Comparison, denial}

-- an assertion, and the comparison that it is
pub record Row : Type 0 where
  pub assertion : Term
  pub comparison : Comparison

-- terms are at most 2,000 high, and the `not` of an assertion is one higher than the assertion
abbrev pub most_height : ℕ
most_height = 1999

-- The assertion is the comparison, behind pairs of `not`: a comparison, the `not` of one, or an equality, of two terms of Int.
-- So la_generic reads the `not` of the assertion as a literal that denies this.
pub record IsRow (row : Row) : Type 0 where
  pub low : height row.assertion ≤ most_height
  pub says : denial (not_of row.assertion) ≡ Some row.comparison
  pub first : IsOf row.comparison.first Sort.Int
  pub second : IsOf row.comparison.second Sort.Int

-- no comparison is said by the assertion, or it is too high
abbrev pub GivesNoRow : Term → Type 0
GivesNoRow t = (row : Row) → IsRow row → row.assertion ≢ t

-- the rows of assertions, in their order
pub data AreRowsOf : List Term → List Row → Type 0 where
  none : AreRowsOf [] []
  given : (t : Term) (row : Row) (ts : List Term) (rows : List Row) → row.assertion ≡ t → IsRow row → AreRowsOf ts rows → AreRowsOf (t ∷ ts) (row ∷ rows)
  other : (t : Term) (ts : List Term) (rows : List Row) → GivesNoRow t → AreRowsOf ts rows → AreRowsOf (t ∷ ts) rows
