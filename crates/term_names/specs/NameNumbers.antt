-- Public. Names, by the numbers that are their places.
use Rattle.std.specs.Prelude.{◌≡◌, ℕ, List, slice_get, Some, ◌⊎◌, [], ◌∷◌, ◌++◌}

-- The name has number k: it had it and nothing changed, or it is new and has no variable yet.
pub record IsNumbered (old new : List (List ℕ)) (old_tops new_tops : List ℕ) (name : List ℕ) (k : ℕ) : Type 0 where
  pub number : slice_get new k ≡ Some name
  pub others : ((new ≡ old) × (new_tops ≡ old_tops)) ⊎ ((new ≡ old ++ name ∷ []) × (new_tops ≡ old_tops ++ 0 ∷ []))
