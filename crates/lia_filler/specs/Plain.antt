-- Public. Rows, and the plain combinations of them, which show that no unknowns satisfy all rows.
use Rattle.std.specs.Prelude.{ℕ, ℤ, pos, ◌≡◌, ◌+◌, ◌<◌, ◌≤◌, ◌+ℤ◌, ◌*ℤ◌, ◌≤ℤ◌, ◌<ℤ◌, false, if◌then◌else◌, List, [], ◌∷◌, slice_index_or, unsigned_abs}
use Rattle.std.specs.List.{AllZip}
use Rattle.lia_filler.specs.declared.row.Row.{Row}

-- the coefficient in a column
abbrev pub coef : ℕ → Row → ℤ
coef column row = slice_index_or row.coefs column (pos 0)

abbrev pub bound : Row → ℤ
bound row = row.bound

-- a number of each row, multiplied by the multiplier of the row, added
abbrev pub multiplied : (Row → ℤ) → List Row → List ℤ → ℤ
multiplied number [] ms = pos 0
multiplied number (row ∷ rows) [] = pos 0
multiplied number (row ∷ rows) (m ∷ ms) = m *ℤ number row +ℤ multiplied number rows ms

-- the multiplier of an inequality is not negative, since that would turn it round
abbrev pub MayMultiply : Row → ℤ → Type 0
MayMultiply row m = row.equal ≡ false → pos 0 ≤ℤ m

-- One multiplier for each row, of any size, by which the rows add up to: 0 is at least a number over 0.
pub record IsPlainCombination (rows : List Row) (ms : List ℤ) : Type 0 where
  pub signs : AllZip MayMultiply rows ms
  pub cancels : (column : ℕ) → column < 4 → multiplied (coef column) rows ms ≡ pos 0
  pub over : pos 0 <ℤ multiplied bound rows ms

-- how many rows there are, an equality counted as two
abbrev pub inequalities_of : List Row → ℕ
inequalities_of [] = 0
inequalities_of (row ∷ rows) = (if row.equal then 2 else 1) + inequalities_of rows

-- what numbers a row may have
pub record IsSmallRow (row : Row) : Type 0 where
  pub coefs : (column : ℕ) → column < 4 → unsigned_abs (coef column row) ≤ 64
  pub bound : unsigned_abs row.bound ≤ 262144
