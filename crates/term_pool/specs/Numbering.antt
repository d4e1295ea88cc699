-- Private. Cells that have been met, each with its number in the order in which they were met.
use Rattle.std.specs.Prelude.{◌≡◌, ℕ, zero, suc, ◌+◌, ◌-◌, ◌<◌, ◌≤◌, ◌^◌, nat_eq, List, [], ◌∷◌, ◌++◌, length, slice_index, Option, Some, None}
use Rattle.std.specs.HashMap.{get}
use Rattle.term_pool.specs.declared.numbering.Numbering.{Numbering}
use Rattle.term_pool.specs.declared.numbering.Index.{Index}
use Rattle.term_pool.specs.declared.numbering.Index.TheVariants.{Few, Many}

-- r is the reference of a cell, in a pool of so many places
pub record IsPlace (places r : ℕ) : Type 0 where
  pub cell : 2 ^ 30 ≤ r
  pub inside : r < 2 ^ 30 + places

-- among the cells, in the order in which they were met, r is number k
abbrev pub HasNumber : List ℕ → ℕ → ℕ → Type 0
HasNumber cells k r = (k < length cells) × (slice_index cells k ≡ r)

-- what a vector by place says: 0 where the place has no number, and else the number and one
abbrev pub number_or_zero : ℕ → Option ℕ
number_or_zero zero = None
number_or_zero (suc k) = Some k

-- the number that the index has for the cell r
abbrev pub number_in : Index → ℕ → Option ℕ
number_in (Few numbers) r = get nat_eq numbers r
number_in (Many numbers) r = number_or_zero (slice_index numbers.items (r - 2 ^ 30))

-- the index can have a number for the cell r
abbrev pub HasNumberRoom : Index → ℕ → Type 0
HasNumberRoom (Few numbers) r = Unit {0}
HasNumberRoom (Many numbers) r = r < 2 ^ 30 + length numbers.items

-- the vector by place has the numbers of the first n cells, and no others
pub record IsFilled (places : ℕ) (cells : List ℕ) (n : ℕ) (numbers : List ℕ) : Type 0 where
  pub long : length numbers ≡ places
  pub told : (k : ℕ) → k < n → slice_index numbers (slice_index cells k - 2 ^ 30) ≡ suc k
  pub only :
      (r k : ℕ) → 2 ^ 30 ≤ r → slice_index numbers (r - 2 ^ 30) ≡ suc k → (k < n) × (slice_index cells k ≡ r)

-- The index has the number of each cell that was met, and of no other; all are cells of the pool, and it has room for
-- each of that pool.
pub record IsNumbering (n : Numbering) : Type 0 where
  pub size : n.places ≤ 2 ^ 26
  pub inside : (k : ℕ) → k < length n.cells.items → IsPlace n.places (slice_index n.cells.items k)
  pub room : (r : ℕ) → IsPlace n.places r → HasNumberRoom n.index r
  pub told : (k : ℕ) → k < length n.cells.items → number_in n.index (slice_index n.cells.items k) ≡ Some k
  pub only : (r k : ℕ) → 2 ^ 30 ≤ r → number_in n.index r ≡ Some k → HasNumber n.cells.items k r

-- one cell more has been met, of few enough
pub record IsNext (old new : Numbering) (r : ℕ) : Type 0 where
  pub numbering : IsNumbering new
  pub places : new.places ≡ old.places
  pub cells : new.cells.items ≡ old.cells.items ++ r ∷ []
  pub few : length old.cells.items < 2 ^ 31
