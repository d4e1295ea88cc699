-- What lists of references have, by recursion and by places.
use Rattle.std.proofs.Common.{◌≡◌, ◌≢◌, ℕ, zero, suc, ◌<◌, ◌⊎◌, inl, inr, refl, sym, arith, List, [], ◌∷◌, ◌++◌, length, get_or, true, false, nat_eq, eqb}
use Rattle.std.specs.List.{AllByRecursion, IsDistinct, list_any}
use Rattle.std.proofs.lemmas.Bool.Decides.{eqb_tells}
use Rattle.term_pool.specs.CellCounts.{Has, AreApart}
use Rattle.term_pool.specs.Numbering.{HasNumber}

pub has_front : {X : Type 0} → (xs : List X) (y x : X) → Has xs x → Has (xs ++ y ∷ []) x
has_front [] y x h = absurd h
has_front (z ∷ xs) y x (inl e) = inl e
has_front (z ∷ xs) y x (inr h) = inr (has_front xs y x h)

pub has_last : {X : Type 0} → (xs : List X) (y : X) → Has (xs ++ y ∷ []) y
has_last [] y = inl refl
has_last (z ∷ xs) y = inr (has_last xs y)

pub has_split : {X : Type 0} → (xs : List X) (y x : X) → Has (xs ++ y ∷ []) x → Has xs x ⊎ (x ≡ y)
has_split [] y x (inl e) = inr e
has_split [] y x (inr h) = absurd h
has_split (z ∷ xs) y x (inl e) = inl (inl e)
has_split (z ∷ xs) y x (inr h) = go (has_split xs y x h)
  where
    go : Has xs x ⊎ (x ≡ y) → Has (z ∷ xs) x ⊎ (x ≡ y)
    go (inl k) = inl (inr k)
    go (inr e) = inr e

-- what holds of all and of one more, holds of all with it
pub all_push : {X : Type 0} → (P : X → Type 0) (xs : List X) (y : X) → ((x : X) → Has xs x → P x) → P y → (x : X) → Has (xs ++ y ∷ []) x → P x
all_push P xs y h e x k = go (has_split xs y x k)
  where
    go : Has xs x ⊎ (x ≡ y) → P x
    go (inl there) = h x there
    go (inr same) = rw same e

pub has_place : {X : Type 0} → (xs : List X) (n : ℕ) (d : X) → n < length xs → Has xs (get_or xs n d)
has_place [] n d less = absurd (omega arith)
has_place (x ∷ xs) zero d less = inl refl
has_place (x ∷ xs) (suc n) d less = inr (has_place xs n d (omega arith))

pub place_of : {X : Type 0} → (xs : List X) (d x : X) → Has xs x → (n : ℕ) × (n < length xs) × (get_or xs n d ≡ x)
place_of [] d x h = absurd h
place_of (y ∷ xs) d x (inl e) = (0, omega arith, sym e)
place_of (y ∷ xs) d x (inr h) =
    let found = place_of xs d x h in let less = found.1 in (suc found.0, omega arith, found.2)

pub has_number : (xs : List ℕ) (x : ℕ) → Has xs x → (k : ℕ) × HasNumber xs k x
has_number xs x h = let found = place_of xs 0 x h in (found.0, (found.1, found.2))

pub number_has : (xs : List ℕ) (k x : ℕ) → HasNumber xs k x → Has xs x
number_has xs k x h = rw (← h.1) (has_place xs k 0 h.0)

-- no two places have the same
abbrev pub AreDistinct : {X : Type 0} → X → List X → Type 0
AreDistinct d xs = (i j : ℕ) → i < length xs → j < length xs → get_or xs i d ≡ get_or xs j d → i ≡ j

pub apart_from_distinct : {X : Type 0} → (d : X) (xs : List X) → AreDistinct d xs → AreApart xs
apart_from_distinct d [] h = tt
apart_from_distinct d (x ∷ xs) h = (other, apart_from_distinct d xs rest)
  where
    other : Has xs x → ⊥
    other k =
        let found = place_of xs d x k in
        let less = found.1 in
        let same : 0 ≡ suc found.0 = h 0 (suc found.0) (omega arith) (omega arith) (sym found.2) in
        absurd (omega arith)

    rest : AreDistinct d xs
    rest i j l m e = let same = h (suc i) (suc j) (omega (arith, l)) (omega (arith, m)) e in omega (arith, same)

pub any_has : (xs : List ℕ) (x : ℕ) → list_any (nat_eq x) xs ≡ true → Has xs x
any_has [] x h = absurd (cc)
any_has (y ∷ xs) x h = go (eqb_tells x y) (any_has xs x)
  where
    go : ((eqb x y ≡ true) × (x ≡ y)) ⊎ ((eqb x y ≡ false) × (x ≢ y)) → (list_any (nat_eq x) xs ≡ true → Has xs x) → Has (y ∷ xs) x
    go (inl e) rest = inl e.1
    go (inr e) rest = inr (rest (rw e.0 at h))

pub distinct_from_apart : (xs : List ℕ) → AreApart xs → IsDistinct eqb xs
unfolding IsDistinct
distinct_from_apart [] h = tt
distinct_from_apart (x ∷ xs) h = (others xs h.0, distinct_from_apart xs h.1)
  where
    others : (ys : List ℕ) → (Has ys x → ⊥) → AllByRecursion (λ y. eqb x y ≡ false) ys
    others [] new = tt
    others (y ∷ ys) new = (go (eqb_tells x y), others ys (λ k. new (inr k)))
      where
        go : ((eqb x y ≡ true) × (x ≡ y)) ⊎ ((eqb x y ≡ false) × (x ≢ y)) → eqb x y ≡ false
        go (inl e) = absurd (new (inl e.1))
        go (inr e) = e.0
