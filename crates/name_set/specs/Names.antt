-- Public. Lists of names.
use Rattle.std.specs.Prelude.{◌≡◌, ℕ, List, position, slice_get, bytes_eq, Some}

-- each name stands once: at whatever place it is read, that is the first of its places
abbrev pub StandOnce : List (List ℕ) → Type 0
StandOnce names = (k : ℕ) (name : List ℕ) → slice_get names k ≡ Some name → position (bytes_eq name) names ≡ Some k
