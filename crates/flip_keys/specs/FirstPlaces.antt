-- Private. The first places at which assertions have their numbers.
use Rattle.std.specs.Prelude.{◌≡◌, ◌≢◌, ◌<◌, ◌⊎◌, ◌++◌, [], ◌∷◌, ℕ, List, length, slice_get, Option, Some, None, Contains}
use Rattle.pair_pool.specs.Views.{PassView}
use Rattle.flip_keys.specs.declared.assertions.Found.{Found}
use Rattle.flip_keys.specs.declared.numbering.Keys.{Keys}
use Rattle.flip_keys.specs.KeyTables.{HasKeyNumber}

-- the first places, in the order of the numbers
abbrev pub firsts_of : Found → List ℕ
firsts_of found = found.firsts.items

-- the number was there and nothing has come, or it comes last, and so does its place
abbrev pub AddsFirst : List ℕ → List ℕ → ℕ → ℕ → List ℕ → List ℕ → Type 0
AddsFirst numbers firsts k place new_numbers new_firsts =
    (Contains numbers k × (new_numbers ≡ numbers) × (new_firsts ≡ firsts))
    ⊎ (¬ Contains numbers k × (new_numbers ≡ numbers ++ k ∷ []) × (new_firsts ≡ firsts ++ place ∷ []))

-- the reference has a number, and not this one
pub record HasOtherNumber (pass : PassView) (keys : Keys) (r k : ℕ) : Type 0 where
  pub number : ℕ
  pub numbered : HasKeyNumber pass keys r number
  pub differs : number ≢ k

-- of the references that have this number, the first one stands at this place
pub record IsFirstPlace (pass : PassView) (keys : Keys) (references : List ℕ) (k place : ℕ) : Type 0 where
  pub reference : ℕ
  pub there : slice_get references place ≡ Some reference
  pub numbered : HasKeyNumber pass keys reference k
  pub before : (n r : ℕ) → n < place → slice_get references n ≡ Some r → HasOtherNumber pass keys r k

-- these are the first places of the numbers
pub record AreFirstPlaces (pass : PassView) (keys : Keys) (references numbers firsts : List ℕ) : Type 0 where
  pub count : length firsts ≡ length numbers
  pub each : (j k place : ℕ) → slice_get numbers j ≡ Some k → slice_get firsts j ≡ Some place → IsFirstPlace pass keys references k place

-- the place that stands where the number does
pub record IsPlaceOf (numbers firsts : List ℕ) (k place : ℕ) : Type 0 where
  pub index : ℕ
  pub number : slice_get numbers index ≡ Some k
  pub first : slice_get firsts index ≡ Some place

-- this is the first place of the number, or the number is not there
abbrev pub IsFirstPlaceOf : List ℕ → List ℕ → ℕ → Option ℕ → Type 0
IsFirstPlaceOf numbers firsts k None = ¬ Contains numbers k
IsFirstPlaceOf numbers firsts k (Some place) = IsPlaceOf numbers firsts k place
