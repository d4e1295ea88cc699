-- Private. Ids in use, by the numbers of their names.
use Rattle.std.specs.Prelude.{◌≡◌, ◌≢◌, ◌<◌, ℕ, List, [], map, length, slice_get, slice_index_or, Option, Some, None}
use Rattle.alethe_reader.specs.declared.ids.Found.{Found}
use Rattle.alethe_reader.specs.declared.ids.Held.{Held}
use Rattle.alethe_reader.specs.Ids.{Used}

abbrev pub used_by : List (List ℕ) → Held → Used
used_by names h = record { id = slice_index_or names h.name []; role = h.role; number = h.number }

abbrev pub used : List (List ℕ) → List Held → List Used
used names held = map (used_by names) held

-- Each id in use has the number of a name, and that name was in use last at the id's place.
pub record IsLatest (names : List (List ℕ)) (latest : List ℕ) (held : List Held) : Type 0 where
  pub one_each : length names ≡ length latest
  pub within : (k : ℕ) (h : Held) → slice_get held k ≡ Some h → h.name < length names
  pub places : (k : ℕ) (h : Held) → slice_get held k ≡ Some h → slice_get latest h.name ≡ Some k

-- what is in use at this place, where it is the id of the name with this number
abbrev pub IsHeldOf : List Held → ℕ → ℕ → Option Found → Type 0
IsHeldOf held place name (Some f) = (f.place ≡ place) × (slice_get held place ≡ Some (record { name = name; role = f.role; number = f.number }))
IsHeldOf held place name None = (h : Held) → slice_get held place ≡ Some h → h.name ≢ name
