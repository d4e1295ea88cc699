-- Private. How columns are eliminated.
use Rattle.std.specs.Prelude.{ℕ, zero, suc, ℤ, pos, neg_ℤ, ◌≡◌, ◌*◌, ◌<◌, ◌≤◌, ◌≤ℤ◌, ◌<ℤ◌, true, List}
use Rattle.std.specs.Prelude.{[], ◌∷◌, length, unsigned_abs, All, Contains, ⊤, slice_index_or}
use Rattle.lia_filler.specs.declared.row.Row.{Row}
use Rattle.lia_filler.specs.Plain.{coef, bound, multiplied, MayMultiply, IsSmallRow}
use Rattle.lia_filler.specs.Mixing.{mixed, unit}

-- the rows of a call
pub record AreFit (rows : List Row) : Type 0 where
  pub few : length rows ≤ 8
  pub narrow : All IsSmallRow rows

-- the greatest multipliers, and the greatest coefficients, once so many columns are eliminated
abbrev pub coef_limit : ℕ → ℕ
coef_limit zero = 64
coef_limit (suc done) = 2 * (coef_limit done * coef_limit done)

abbrev pub multiplier_limit : ℕ → ℕ
multiplier_limit zero = 1
multiplier_limit (suc done) = 2 * (coef_limit done * multiplier_limit done)

-- no inequality is turned round; there may be further multipliers
abbrev pub HaveSigns : List Row → List ℤ → Type 0
HaveSigns [] ms = ⊤
HaveSigns (row ∷ rows) [] = ⊥
HaveSigns (row ∷ rows) (m ∷ ms) = MayMultiply row m × HaveSigns rows ms

-- The multipliers make a row in which so many columns are eliminated.
pub record IsDerived (rows : List Row) (done : ℕ) (ms : List ℤ) : Type 0 where
  pub each : length ms ≡ 8
  pub signs : HaveSigns rows ms
  pub cancels : (column : ℕ) → column < done → multiplied (coef column) rows ms ≡ pos 0
  pub small : All (λ m. unsigned_abs m ≤ multiplier_limit done) ms
  pub narrow : (column : ℕ) → column < 4 → unsigned_abs (multiplied (coef column) rows ms) ≤ coef_limit done

-- what the multipliers make in a column
abbrev pub in_column : List Row → ℕ → List ℤ → ℤ
in_column rows column ms = multiplied (coef column) rows ms

-- two of opposite signs in a column, taken as often as cancels it
abbrev pub paired : List Row → ℕ → List ℤ → List ℤ → List ℤ
paired rows column x y = mixed (neg_ℤ (in_column rows column y)) x (in_column rows column x) y

-- the pairs of one that is over 0 in the column
pub record ArePairsOf (rows : List Row) (column : ℕ) (x : List ℤ) (lows : List (List ℤ)) (P : List ℤ → Type 0) : Type 0 where
  pub pairs : (y : List ℤ) → Contains lows y → in_column rows column y <ℤ pos 0 → P (paired rows column x y)

-- the pairs of some with others, and those that are 0 in the column
pub record AreMadeOf (rows : List Row) (column : ℕ) (highs lows : List (List ℤ)) (P : List ℤ → Type 0) : Type 0 where
  pub pairs : (x : List ℤ) → Contains highs x → pos 0 <ℤ in_column rows column x → ArePairsOf rows column x lows P
  pub levels : (x : List ℤ) → Contains highs x → in_column rows column x ≡ pos 0 → P x

-- the bound is not over 0
abbrev pub IsNotOver : List Row → List ℤ → Type 0
IsNotOver rows ms = multiplied bound rows ms ≤ℤ pos 0

-- each row taken once, an equality turned round too
pub record AreRowsOf (rows : List Row) (derived : List (List ℤ)) (count : ℕ) : Type 0 where
  pub straight : (i : ℕ) → i < count → Contains derived (unit i (pos 1))
  pub turned : (i : ℕ) (d : Row) → i < count → (slice_index_or rows i d).equal ≡ true → Contains derived (unit i (neg_ℤ (pos 1)))

-- all columns are eliminated, and the bound is over 0
pub record IsOver (rows : List Row) (ms : List ℤ) : Type 0 where
  pub derived : IsDerived rows 4 ms
  pub over : pos 0 <ℤ multiplied bound rows ms
