-- Private. The columns of rows: references of opaque terms, each of them once.
use Rattle.std.specs.Prelude.{◌≡◌, ◌≢◌, ◌⊎◌, ◌≤◌, ◌<◌, ℕ, Bool, true, false, List, [], ◌∷◌, ◌++◌, length, All, AllPairs, Contains}

abbrev pub AreApart : List ℕ → Type 0
AreApart columns = AllPairs (λ (q r : ℕ). q ≢ r) columns

-- a column that stands there, or one more while there are less than four
abbrev pub IsColumnAdded : List ℕ → ℕ → List ℕ → Bool → Type 0
IsColumnAdded old r new true = (Contains old r × (new ≡ old)) ⊎ ((¬ Contains old r) × (length old < 4) × (new ≡ old ++ r ∷ []))
IsColumnAdded old r new false = (¬ Contains old r) × (4 ≤ length old) × (new ≡ old)

-- each of the references has a column
pub record AreAdded (old refs new : List ℕ) : Type 0 where
  pub more : List ℕ
  pub grown : new ≡ old ++ more
  pub from : All (Contains refs) more
  pub each : All (Contains new) refs
  pub apart : AreApart new
  pub few : length new ≤ 4

-- four columns are too few
pub record HaveFive (old refs : List ℕ) : Type 0 where
  pub five : List ℕ
  pub count : length five ≡ 5
  pub apart : AreApart five
  pub from : All (λ r. Contains old r ⊎ Contains refs r) five

abbrev pub TellsAdded : List ℕ → List ℕ → List ℕ → Bool → Type 0
TellsAdded old refs new true = AreAdded old refs new
TellsAdded old refs new false = HaveFive old refs
