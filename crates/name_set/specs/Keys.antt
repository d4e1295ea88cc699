-- Private. How the fields of a `NameSet` give the names that contracts see, and what holds of them.
use Rattle.std.specs.Prelude.{◌≡◌, ℕ, ◌+◌, ◌<◌, ◌≤◌, ◌^◌, List, [], ◌∷◌, length, map, position, slice_get, slice_index, slice_range, nat_le, bytes_eq}
use Rattle.std.specs.Prelude.{if◌then◌else◌, Option, Some, Vec}
use Rattle.std.specs.declared.alloc.Global.{Global}
use Rattle.std.specs.Map.{lookup}
use Rattle.name_set.specs.declared.names.Span.{Span}
use Rattle.name_set.specs.Names.{StandOnce}
use Rattle.name_set.specs.Packing.{packed}

-- the names, which stand in one text
abbrev pub names_of_spans : List ℕ → List Span → List (List ℕ)
names_of_spans text spans = map (λ s. slice_range text s.start s.end) spans

-- each stands within the text
abbrev pub AreWithin : List ℕ → List Span → Type 0
AreWithin text spans = (k : ℕ) (s : Span) → slice_get spans k ≡ Some s → (s.start ≤ s.end) × (s.end ≤ length text)

-- the key of the name with number k: what it is packed into, or, of a longer name, a number that no name is packed into
unfoldable pub name_key : ℕ → List ℕ → ℕ
name_key k name = if nat_le (length name) 15 then packed name else (2 ^ 127 + k)

-- the keys of names of which the first has number k
abbrev pub name_keys_from : ℕ → List (List ℕ) → List ℕ
name_keys_from k [] = []
name_keys_from k (name ∷ names) = name_key k name ∷ name_keys_from (k + 1) names

-- all items are bytes
pub record AreBytes (name : List ℕ) : Type 0 where
  pub byte : (i : ℕ) → slice_index name i < 256

-- the number of a name among the longer ones
abbrev pub longer_number : List (Vec ℕ Global × ℕ) → List ℕ → Option ℕ
longer_number longer name = lookup (λ key. bytes_eq name key.items) longer

-- The names, by their keys and by the numbers of the longer ones.
pub record AreIndexed (names : List (List ℕ)) (keys : List ℕ) (longer : List (Vec ℕ Global × ℕ)) : Type 0 where
  pub keys_are : keys ≡ name_keys_from 0 names
  pub longer_are : (name : List ℕ) → 15 < length name → longer_number longer name ≡ position (bytes_eq name) names
  pub bytes : (k : ℕ) (name : List ℕ) → slice_get names k ≡ Some name → AreBytes name
  pub once : StandOnce names
