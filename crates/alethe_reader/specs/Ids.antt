-- Public. Ids that are in use, as contracts see them: those of visible commands and of open anchors.
use Rattle.std.specs.Prelude.{◌≡◌, ◌≢◌, ℕ, List, slice_get, Option, Some, None}
use Rattle.alethe_reader.specs.declared.ids.Role.{Role}
use Rattle.alethe_reader.specs.declared.ids.Found.{Found}

-- An id, what it is the id of, and the command's index, or the number of the scope that the anchor opened.
pub record Used : Type 0 where
  pub id : List ℕ
  pub role : Role
  pub number : ℕ

-- The ids in use in the order in which they came, and the names that have a number, each at the place that is its number:
-- those of all ids that were in use once.
pub record IdsView : Type 0 where
  pub names : List (List ℕ)
  pub used : List Used

-- the id is not in use
abbrev pub IsUnused : List Used → List ℕ → Type 0
IsUnused used id = (k : ℕ) (u : Used) → slice_get used k ≡ Some u → u.id ≢ id

-- the id is in use at this place, and at no other
pub record IsUsedAt (used : List Used) (id : List ℕ) (f : Found) : Type 0 where
  pub here : slice_get used f.place ≡ Some (record { id = id; role = f.role; number = f.number })
  pub alone : (k : ℕ) (u : Used) → slice_get used k ≡ Some u → u.id ≡ id → k ≡ f.place

-- what a look-up of an id returns
abbrev pub IsIdFound : List Used → List ℕ → Option Found → Type 0
IsIdFound used id (Some f) = IsUsedAt used id f
IsIdFound used id None = IsUnused used id
