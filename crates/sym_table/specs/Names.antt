-- Private. Lists in which the place of an item is its number.
use Rattle.std.specs.Prelude.{◌≡◌, ◌⊎◌, ◌++◌, [], ◌∷◌, ℕ, List, length, slice_get, Some}

-- the item is nowhere in the list
abbrev pub Lacks : {X : Type 0} → List X → X → Type 0
Lacks xs x = (k : ℕ) → slice_get xs k ≡ Some x → ⊥

-- no item stands at two places
abbrev pub AreApart : {X : Type 0} → List X → Type 0
AreApart {X} xs = (j k : ℕ) (x : X) → slice_get xs j ≡ Some x → slice_get xs k ≡ Some x → j ≡ k

-- the item was at place k and the list is as before, or it was nowhere and stands at the end now, at place k
abbrev pub PlacesItem : {X : Type 0} → List X → List X → ℕ → X → Type 0
PlacesItem old new k x =
    ((slice_get old k ≡ Some x) × (new ≡ old)) ⊎ (Lacks old x × (k ≡ length old) × (new ≡ old ++ x ∷ []))
