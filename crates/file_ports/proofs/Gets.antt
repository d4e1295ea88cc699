-- What stands at a place of a list after a write and after a push.
use Rattle.std.proofs.Common.{◌≡◌, ◌≢◌, refl, ap, ℕ, suc, zero, ◌<◌, List, [], ◌∷◌, ◌++◌, length, arith, Some}
use Rattle.std.proofs.Math.ListN.{set}
use Rattle.std.specs.List.{slice_get}

pub slice_get-set_here : {X : Type 0} → (xs : List X) (i : ℕ) (v : X) → i < length xs → slice_get (set xs i v) i ≡ Some v
slice_get-set_here [] i v h = absurd (omega arith)
slice_get-set_here (x ∷ xs) zero v h = refl
slice_get-set_here (x ∷ xs) (suc i) v h = slice_get-set_here xs i v (omega arith)

pub slice_get-set_other : {X : Type 0} → (xs : List X) (i n : ℕ) (v : X) → n ≢ i → slice_get (set xs i v) n ≡ slice_get xs n
slice_get-set_other [] i n v h = refl
slice_get-set_other (x ∷ xs) zero zero v h = absurd (h refl)
slice_get-set_other (x ∷ xs) zero (suc n) v h = refl
slice_get-set_other (x ∷ xs) (suc i) zero v h = refl
slice_get-set_other (x ∷ xs) (suc i) (suc n) v h = slice_get-set_other xs i n v (λ e. h (ap suc e))

pub slice_get-push_here : {X : Type 0} → (xs : List X) (y : X) (n : ℕ) → n ≡ length xs → slice_get (xs ++ y ∷ []) n ≡ Some y
slice_get-push_here [] y zero h = refl
slice_get-push_here [] y (suc n) h = absurd (omega arith)
slice_get-push_here (x ∷ xs) y zero h = absurd (omega arith)
slice_get-push_here (x ∷ xs) y (suc n) h = slice_get-push_here xs y n (omega arith)

pub slice_get-push_other : {X : Type 0} → (xs : List X) (y : X) (n : ℕ) → n ≢ length xs → slice_get (xs ++ y ∷ []) n ≡ slice_get xs n
slice_get-push_other [] y zero h = absurd (h refl)
slice_get-push_other [] y (suc n) h = refl
slice_get-push_other (x ∷ xs) y zero h = refl
slice_get-push_other (x ∷ xs) y (suc n) h = slice_get-push_other xs y n (λ e. h (omega arith))
