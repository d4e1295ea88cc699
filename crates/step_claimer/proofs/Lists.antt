-- Private. A seat at its place in the list of all seats.
use Rattle.std.proofs.Common.{◌≡◌, ℕ, zero, suc, ◌<◌, List, [], ◌∷◌, length, get_or, set, length-set, Contains, sym, arith, get_or-set_same}
use mathlib.Core.Option.{some, some-injective, some-ne-none}
use lib.ListN.{get_elem?}

pub at_inside : {X : Type 0} → (xs : List X) (i : ℕ) (x : X) → get_elem? xs i ≡ some x → i < length xs
at_inside [] i x e = absurd (some-ne-none x (sym e))
at_inside (y ∷ ys) zero x e = omega arith
at_inside (y ∷ ys) (suc i) x e = let h = at_inside ys i x e in omega arith

pub at_read : {X : Type 0} → (xs : List X) (i : ℕ) (x d : X) → get_elem? xs i ≡ some x → get_or xs i d ≡ x
at_read [] i x d e = absurd (some-ne-none x (sym e))
at_read (y ∷ ys) zero x d e = some-injective y x e
at_read (y ∷ ys) (suc i) x d e = at_read ys i x d e

pub set_contains : {X : Type 0} → (xs : List X) (i : ℕ) (x : X) → i < length xs → Contains (set xs i x) x
set_contains xs i x h = (i, rw (length-set xs i x) h, get_or-set_same xs i x x h)
