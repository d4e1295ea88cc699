-- Public. The table of equalities, both ways round, in the order of their first sides.
use Rattle.std.specs.Prelude.{◌≡◌, ◌<◌, ◌≤◌, ◌+◌, ◌*◌, ◌^◌, ℕ, false, true, List, [], ◌∷◌, Contains, Option, None, Some, length, get_or, slice_get}
use Rattle.std.specs.List.Sorted.{IsNonDecreasingBy}
use Rattle.equality_ways.specs.declared.pairs.Used.{Used}
use Rattle.equality_ways.specs.declared.table.Entry.{Entry}
use Rattle.equality_ways.specs.declared.table.Table.{Table}
use Rattle.equality_ways.specs.Ways.{AreEnds, LeadsTo}

abbrev pub entry : ℕ → ℕ → Used → Entry
entry a b u = record { from = a; to = b; used = u }

-- the order of entries: by where they come from, then by where they go
abbrev pub entry_rank : Entry → ℕ
entry_rank e = e.from * 2 ^ 32 + e.to

-- references are below 2^31
abbrev pub AreSmall : List Entry → Type 0
AreSmall entries = (e : Entry) → Contains entries e → (e.from < 2 ^ 31) × (e.to < 2 ^ 31)

-- the entries of an equality at a place
abbrev pub entries_at : ℕ → Option (ℕ × ℕ) → List Entry
entries_at n None = []
entries_at n (Some p) = entry p.0 p.1 (record { place = n; turned = false }) ∷ entry p.1 p.0 (record { place = n; turned = true }) ∷ []

-- one of the entries has these ends
pub record HasEntry (entries : List Entry) (a b : ℕ) : Type 0 where
  pub used : Used
  pub there : Contains entries (entry a b used)

-- the entries of all places before this one
pub record AreEntriesTo (sides : List (Option (ℕ × ℕ))) (n : ℕ) (entries : List Entry) : Type 0 where
  pub small : AreSmall entries
  pub sound : (e : Entry) → Contains entries e → LeadsTo sides e.used e.from e.to
  pub complete : (k : ℕ) (p : Option (ℕ × ℕ)) (e : Entry) → k < n → slice_get sides k ≡ Some p → Contains (entries_at k p) e → Contains entries e

-- the table can be searched
pub record IsSearchable (entries : List Entry) : Type 0 where
  pub rising : IsNonDecreasingBy entry_rank entries
  pub small : AreSmall entries

-- the table is of these equalities: each entry is of one, and each has an entry in either direction
pub record IsTableOf (sides : List (Option (ℕ × ℕ))) (table : Table) : Type 0 where
  pub searchable : IsSearchable table.entries.items
  pub sound : (e : Entry) → Contains table.entries.items e → LeadsTo sides e.used e.from e.to
  pub complete : (a b : ℕ) → AreEnds sides a b → HasEntry table.entries.items a b

-- the place before which all entries come before the rank, and from which on none does
pub record IsFirstFrom (entries : List Entry) (rank place : ℕ) : Type 0 where
  pub within : place ≤ length entries
  pub before : (k : ℕ) (d : Entry) → k < place → entry_rank (get_or entries k d) < rank
  pub after : (k : ℕ) (d : Entry) → place ≤ k → k < length entries → rank ≤ entry_rank (get_or entries k d)
