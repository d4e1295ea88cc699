-- Items of lists by their places.
use Rattle.std.proofs.Common.{◌≡◌, ◌⊎◌, inl, inr, ◌<◌, ◌≤◌, ◌+◌, ◌-◌, ℕ, List, [], ◌∷◌, ◌++◌, length, slice_get, Some, refl, subst, arith}
use Rattle.rule_model.proofs.Lines.{get_append, get_one}

-- what holds of each item and its place holds with one item more
pub each_push : {X : Type 0} (P : ℕ → X → Type 0) (xs : List X) (x : X) (n : ℕ) → length xs ≡ n → ((k : ℕ) (y : X) → slice_get xs k ≡ Some y → P k y) → P n x → (k : ℕ) (y : X) → slice_get (xs ++ x ∷ []) k ≡ Some y → P k y
each_push P xs x n long before here k y e = go (get_append xs (x ∷ []) k y e)
  where
    go : ((k < length xs) × (slice_get xs k ≡ Some y)) ⊎ ((length xs ≤ k) × (slice_get (x ∷ []) (k - length xs) ≡ Some y)) → P k y
    go (inl found) = before k y found.1
    go (inr found) =
        let last = get_one x (k - length xs) y found.1 in
        let after = found.0 in
        let none = last.0 in
        let at : n ≡ k = omega (arith, long, after, none) in
        subst (λ j. P j y) at (subst (P n) last.1 here)

pub length_push : {X : Type 0} (xs : List X) (x : X) (n : ℕ) → length xs ≡ n → length (xs ++ x ∷ []) ≡ n + 1
length_push [] x n e = omega (arith, e)
length_push (y ∷ xs) x n e = let more = length_push xs x (length xs) refl in omega (arith, e, more)

pub each_none : {X : Type 0} (P : ℕ → X → Type 0) (xs : List X) → xs ≡ [] → (k : ℕ) (y : X) → slice_get xs k ≡ Some y → P k y
each_none P [] none k y e = absurd cc
each_none P (x ∷ xs) none k y e = absurd cc
