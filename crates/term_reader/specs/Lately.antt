-- Public. When what is kept of lists that were read lately is right.
use Rattle.std.specs.Prelude.{◌≡◌, ◌≤◌, ◌⊎◌, ℕ, List, length, slice_get, slice_range, Some}
use Rattle.problem_text.specs.Limits.{most_height}
use Rattle.problem_text.specs.Names.{Place}
use Rattle.problem_text.specs.Remembered.{StandFor}
use Rattle.problem_text.specs.Scripts.{Script}
use Rattle.problem_text.specs.TypedTerms.{Typed}
use Rattle.term_expansion.specs.SymbolsAndTerms.{SymbolsAndTerms}
use Rattle.term_expansion.specs.Values.{IsValue}
use Rattle.term_expansion.specs.declared.values.Value.{Value}
use Rattle.term_reader.specs.Reading.{IsTermRead}
use Rattle.term_reader.specs.ReadingViews.{ReadingView}
use Rattle.term_reader.specs.declared.lately.Row.{Row}

-- Each list that stands in these bytes, in whatever text, is read to the term of this value here.
pub record IsRight (w : SymbolsAndTerms) (p : Place) (sc : Script) (bytes : List ℕ) (c : Value) : Type 0 where
  pub term : Typed
  pub stand : StandFor p sc bytes term
  pub is : IsValue w c term
  pub low : c.height ≤ most_height

-- the text in which the rows' lists stand, the rows, and the time
pub record LatelyView : Type 0 where
  pub text : List ℕ
  pub rows : List Row
  pub stamp : ℕ

-- The rows that were kept since names changed last are right.
abbrev pub AreRight : SymbolsAndTerms → Place → Script → LatelyView → Type 0
AreRight w p sc l =
    (k : ℕ) (row : Row) → slice_get l.rows k ≡ Some row → row.stamp ≡ l.stamp → IsRight w p sc (slice_range l.text row.start row.end) row.value

pub record IsRow (text : List ℕ) (stamp : ℕ) (row : Row) : Type 0 where
  pub ordered : row.start ≤ row.end
  pub within : row.end ≤ length text
  pub earlier : row.stamp ≤ stamp

-- The rows' lists stand in the text, and no row is of a later time than this.
abbrev pub AreRows : List ℕ → ℕ → List Row → Type 0
AreRows text stamp rows = (k : ℕ) (row : Row) → slice_get rows k ≡ Some row → IsRow text stamp row

-- Each row is an old one or this one.
abbrev pub IsPut : List Row → Row → List Row → Type 0
IsPut old row new = (k : ℕ) (r : Row) → slice_get new k ≡ Some r → ((j : ℕ) × (slice_get old j ≡ Some r)) ⊎ (r ≡ row)

-- A term was read, the reader is ready for the next one, and the rows are right then.
pub record IsReadOnce (w : SymbolsAndTerms) (r : ReadingView) (p : Place) (l : LatelyView) (c : Value) (t : Typed) (sc : Script) : Type 0 where
  pub read : IsTermRead w r p c t sc
  pub rows : AreRight w p sc l
