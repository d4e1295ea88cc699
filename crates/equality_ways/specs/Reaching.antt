-- Private. What the search for a way knows, and how a way is read back.
use Rattle.std.specs.Prelude.{◌≡◌, ◌⊎◌, ◌<◌, ◌≤◌, ◌^◌, ◌++◌, not, ℕ, List, [], ◌∷◌, Contains, length, get_or, slice_get, Some}
use Rattle.equality_ways.specs.declared.pairs.Used.{Used}
use Rattle.equality_ways.specs.declared.reaching.Step.{Step}
use Rattle.equality_ways.specs.declared.table.Entry.{Entry}
use Rattle.equality_ways.specs.Tables.{entry}

-- the same equality in the other direction
abbrev pub other_way : Used → Used
other_way u = record { place = u.place; turned = not u.turned }

-- a reference at this place was reached from an earlier one by an entry
pub record IsReachedFrom (entries : List Entry) (keys : List ℕ) (place key : ℕ) (step : Step) : Type 0 where
  pub earlier : step.from < place
  pub source : ℕ
  pub is_source : slice_get keys step.from ≡ Some source
  pub there : Contains entries (entry source key step.used)

-- the references that are reached from the first one, each with how it was reached
pub record AreReached (entries : List Entry) (first : ℕ) (keys : List ℕ) (steps : List Step) : Type 0 where
  pub aligned : length steps ≡ length keys
  pub begins : slice_get keys 0 ≡ Some first
  pub one_place : (j k key : ℕ) → slice_get keys j ≡ Some key → slice_get keys k ≡ Some key → j ≡ k
  pub each : (place key : ℕ) (step : Step) → 0 < place → slice_get keys place ≡ Some key → slice_get steps place ≡ Some step →
      IsReachedFrom entries keys place key step
  pub small : (place key : ℕ) → slice_get keys place ≡ Some key → key < 2 ^ 31

-- the references were reached one after the other: each step is from this place or one before it, and from none before those of earlier steps
pub record AreInOrder (steps : List Step) (at : ℕ) : Type 0 where
  pub rising : (j k : ℕ) (step next : Step) → j ≤ k → slice_get steps j ≡ Some step → slice_get steps k ≡ Some next → step.from ≤ next.from
  pub low : (k : ℕ) (step : Step) → slice_get steps k ≡ Some step → step.from ≤ at

-- what is reached once this reference was met: where it is new it stands at the end
abbrev pub Reaches : ℕ → Step → List ℕ → List Step → List ℕ → List Step → Type 0
Reaches key step keys steps new_keys new_steps =
    (Contains keys key × (new_keys ≡ keys) × (new_steps ≡ steps))
    ⊎ ((¬ Contains keys key) × (new_keys ≡ keys ++ key ∷ []) × (new_steps ≡ steps ++ step ∷ []))

-- the entries from the reference at a place, up to one of them, were followed
pub record FollowsTo (entries : List Entry) (at from first place : ℕ) (keys : List ℕ) (steps : List Step)
    (new_keys : List ℕ) (new_steps : List Step) : Type 0 where
  pub kept : (k x : ℕ) → slice_get keys k ≡ Some x → slice_get new_keys k ≡ Some x
  pub kept_steps : (k : ℕ) (step : Step) → slice_get steps k ≡ Some step → slice_get new_steps k ≡ Some step
  pub long : length keys ≤ length new_keys
  pub ends : (k : ℕ) (d : Entry) → first ≤ k → k < place → Contains new_keys (get_or entries k d).to
  pub reached : (start : ℕ) → slice_get keys at ≡ Some from → AreReached entries start keys steps → AreReached entries start new_keys new_steps
  pub ordered : AreInOrder steps at → AreInOrder new_steps at

-- all entries from it were
pub record Follows (entries : List Entry) (at from : ℕ) (keys : List ℕ) (steps : List Step) (new_keys : List ℕ) (new_steps : List Step) : Type 0 where
  pub kept : (k x : ℕ) → slice_get keys k ≡ Some x → slice_get new_keys k ≡ Some x
  pub kept_steps : (k : ℕ) (step : Step) → slice_get steps k ≡ Some step → slice_get new_steps k ≡ Some step
  pub long : length keys ≤ length new_keys
  pub ends : (b : ℕ) (u : Used) → Contains entries (entry from b u) → Contains new_keys b
  pub reached : (start : ℕ) → slice_get keys at ≡ Some from → AreReached entries start keys steps → AreReached entries start new_keys new_steps
  pub ordered : AreInOrder steps at → AreInOrder new_steps at

-- a reference was reached from this place or one before it
pub record IsReachedBy (keys : List ℕ) (steps : List Step) (at key : ℕ) : Type 0 where
  pub place : ℕ
  pub is : slice_get keys place ≡ Some key
  pub step : Step
  pub is_step : slice_get steps place ≡ Some step
  pub low : step.from ≤ at

-- the entries from the first references that were reached lead to what is reached by then
abbrev pub AreFollowed : List Entry → ℕ → List ℕ → List Step → Type 0
AreFollowed entries n keys steps =
    (k a b : ℕ) (u : Used) → k < n → slice_get keys k ≡ Some a → Contains entries (entry a b u) → IsReachedBy keys steps k b

-- so many of the references that are reached were followed
pub record IsSearched (entries : List Entry) (start at : ℕ) (keys : List ℕ) (steps : List Step) : Type 0 where
  pub reached : AreReached entries start keys steps
  pub within : at ≤ length keys
  pub ordered : AreInOrder steps at
  pub followed : AreFollowed entries at keys steps

-- each step leads back
abbrev pub AreBackward : List Step → Type 0
AreBackward steps = (place : ℕ) (step : Step) → 0 < place → slice_get steps place ≡ Some step → step.from < place

-- the steps back from one place to another, each in the other direction
abbrev pub IsTrail : List Step → ℕ → ℕ → List Used → Type 0
IsTrail steps place end [] = place ≡ end
IsTrail steps place end (u ∷ used) =
    (0 < place) × (step : Step) × (slice_get steps place ≡ Some step) × (u ≡ other_way step.used) × IsTrail steps step.from end used
