-- Private. Names by their numbers, and what each means now.
use Rattle.std.specs.Prelude.{◌≡◌, ◌⊎◌, ℕ, ◌+◌, ◌*◌, ◌%◌, ◌<◌, List, [], ◌∷◌, ◌++◌, Bool, true, false, length, set, slice_get, slice_index_or, Option, Some}
use Rattle.std.specs.Prelude.{None}
use Rattle.name_set.specs.Names.{StandOnce}
use Rattle.term_names.specs.declared.entries.Entry.{Entry}

-- the names by their numbers, and for each what it is that of, and where its innermost variable stands, counted from 1
pub record NameTableView : Type 0 where
  pub names : List (List ℕ)
  pub entries : List (Option Entry)
  pub innermost : List ℕ

abbrev pub no_names : NameTableView
no_names = record { names = []; entries = []; innermost = [] }

-- each name that has an entry with that entry
abbrev pub entries_in : List (List ℕ) → List (Option Entry) → List (List ℕ × Entry)
entries_in [] es = []
entries_in (n ∷ names) [] = []
entries_in (n ∷ names) (None ∷ es) = entries_in names es
entries_in (n ∷ names) (Some e ∷ es) = (n, e) ∷ entries_in names es

-- what the names of a table are those of
abbrev pub entries_of : NameTableView → List (List ℕ × Entry)
entries_of t = entries_in t.names t.entries

-- one more name, which means nothing yet
abbrev pub with_name : NameTableView → List ℕ → NameTableView
with_name t name = record {
  names = t.names ++ name ∷ [];
  entries = t.entries ++ None ∷ [];
  innermost = t.innermost ++ 0 ∷ [];
}

-- the name of number k gets an entry
abbrev pub with_entry : NameTableView → ℕ → Entry → NameTableView
with_entry t k entry = record t { entries = set t.entries k (Some entry) }

-- The name has number k: it had it and nothing changed, or it is new.
pub record GetsNumber (old new : NameTableView) (name : List ℕ) (k : ℕ) : Type 0 where
  pub number : slice_get new.names k ≡ Some name
  pub others : (new ≡ old) ⊎ (new ≡ with_name old name)

-- the name has number k, and this entry
pub record GetsEntry (old new : NameTableView) (name : List ℕ) (entry : Entry) (k : ℕ) : Type 0 where
  pub numbered : NameTableView
  pub number : GetsNumber old numbered name k
  pub entered : new ≡ with_entry numbered k entry

-- the mark of a name, by its first byte and its length
abbrev pub mark_of : List ℕ → ℕ
mark_of [] = 0
mark_of (first ∷ rest) = (first + length (first ∷ rest) % 8 * 32) % 256

-- the mark of each name is set
abbrev pub AreMarked : List (List ℕ) → List Bool → Type 0
AreMarked names marks = (k : ℕ) → k < length names → slice_index_or marks (mark_of (slice_index_or names k [])) false ≡ true

pub record IsNameTable (names : List (List ℕ)) (entries : List (Option Entry)) (innermost : List ℕ) (marks : List Bool) : Type 0 where
  pub entry_each : length entries ≡ length names
  pub place_each : length innermost ≡ length names
  pub once : StandOnce names
  pub marked : AreMarked names marks
