-- Cited by crates above. Places in a list of names, and what is looked up by name.
use Rattle.std.proofs.Common.{◌≡◌, refl, sym, ap, ◌∙◌, arith, ℕ, suc, ◌+◌, Bool, true, false, ◌||◌, if◌then◌else◌, List, [], ◌∷◌, ◌++◌, slice_get, Some}
use Rattle.std.specs.List.{list_any, AllByRecursion}
use Rattle.hole_fillers.specs.Questions.{firsts_behind, place_among}

pub all_left : {X : Type 0} (P : X → Type 0) (xs ys : List X) → AllByRecursion P (xs ++ ys) → AllByRecursion P xs
all_left P [] ys h = tt
all_left P (x ∷ xs) ys h = (h.0, all_left P xs ys h.1)

pub all_right : {X : Type 0} (P : X → Type 0) (xs ys : List X) → AllByRecursion P (xs ++ ys) → AllByRecursion P ys
all_right P [] ys h = h
all_right P (x ∷ xs) ys h = all_right P xs ys h.1

pub all_like : {X : Type 0} (P Q : X → Type 0) → ((x : X) → P x → Q x) → (xs : List X) → AllByRecursion P xs → AllByRecursion Q xs
all_like P Q f [] h = tt
all_like P Q f (x ∷ xs) h = (f x h.0, all_like P Q f xs h.1)

or_left : (a b : Bool) → a ≡ true → (a || b) ≡ true
or_left true b e = refl
or_left false b e = absurd cc

or_right : (a b : Bool) → b ≡ true → (a || b) ≡ true
or_right true b e = refl
or_right false b e = e

-- a test of sameness that decides it
pub record Tells {X : Type 0} (same : X → X → Bool) : Type 0 where
  pub is : (x y : X) → same x y ≡ true → x ≡ y
  pub alike : (x : X) → same x x ≡ true

abbrev pub Has : {X : Type 0} → (X → X → Bool) → List X → X → Type 0
Has same xs x = list_any (same x) xs ≡ true

has_left : {X : Type 0} (same : X → X → Bool) (x : X) (xs ys : List X) → Has same xs x → Has same (xs ++ ys) x
has_left same x [] ys h = absurd cc
has_left same x (y ∷ xs) ys h = go (same x y) h (has_left same x xs ys)
  where
    go : (b : Bool) → (b || list_any (same x) xs) ≡ true → (Has same xs x → Has same (xs ++ ys) x) → (b || list_any (same x) (xs ++ ys)) ≡ true
    go true h rest = refl
    go false h rest = rest h

has_last : {X : Type 0} (same : X → X → Bool) (tells : Tells same) (x : X) (xs : List X) → Has same (xs ++ x ∷ []) x
has_last same tells x [] = or_left (same x x) false (tells.alike x)
has_last same tells x (y ∷ xs) = or_right (same x y) _ (has_last same tells x xs)

seen_stays : {X : Type 0} (same : X → X → Bool) (x : X) (seen xs : List X) → Has same seen x → Has same (firsts_behind same seen xs) x
seen_stays same x seen [] h = h
seen_stays same x seen (y ∷ xs) h =
    go (list_any (same y) seen) (seen_stays same x seen xs h) (seen_stays same x (seen ++ y ∷ []) xs (has_left same x seen (y ∷ []) h))
  where
    go : (b : Bool) → Has same (firsts_behind same seen xs) x → Has same (firsts_behind same (seen ++ y ∷ []) xs) x →
        Has same (firsts_behind same (if b then seen else seen ++ y ∷ []) xs) x
    go true h k = h
    go false h k = k

pub each_there :
    {X : Type 0} (same : X → X → Bool) (tells : Tells same) (seen xs : List X) → AllByRecursion (Has same (firsts_behind same seen xs)) xs
each_there same tells seen [] = tt
each_there same tells seen (x ∷ xs) = (
  go (list_any (same x) seen) refl (seen_stays same x seen xs) (seen_stays same x (seen ++ x ∷ []) xs (has_last same tells x seen)),
  each_there same tells (if list_any (same x) seen then seen else seen ++ x ∷ []) xs,
)
  where
    go : (b : Bool) → list_any (same x) seen ≡ b → (Has same seen x → Has same (firsts_behind same seen xs) x) →
        Has same (firsts_behind same (seen ++ x ∷ []) xs) x → Has same (firsts_behind same (if b then seen else seen ++ x ∷ []) xs) x
    go true e h k = h e
    go false e h k = k

pub each_in_itself : {X : Type 0} (same : X → X → Bool) (tells : Tells same) (xs : List X) → AllByRecursion (Has same xs) xs
each_in_itself same tells [] = tt
each_in_itself same tells (x ∷ xs) = (
  or_left (same x x) _ (tells.alike x),
  all_like (Has same xs) (Has same (x ∷ xs)) (λ y h. or_right (same y x) _ h) xs (each_in_itself same tells xs),
)

next_one : {X : Type 0} (y : X) (xs : List X) (k : ℕ) → slice_get (y ∷ xs) (1 + k) ≡ slice_get xs k
next_one y xs k = let e : 1 + k ≡ suc k = omega arith in rw e refl

place_is :
    {X : Type 0} (same : X → X → Bool) (tells : Tells same) (x : X) (xs : List X) → Has same xs x →
    slice_get xs (place_among same x xs) ≡ Some x
place_is same tells x [] h = absurd cc
place_is same tells x (y ∷ xs) h = go (same x y) refl h (place_is same tells x xs)
  where
    go : (b : Bool) → same x y ≡ b → (b || list_any (same x) xs) ≡ true → (Has same xs x → slice_get xs (place_among same x xs) ≡ Some x) →
        slice_get (y ∷ xs) (place_among same x (y ∷ xs)) ≡ Some x
    go true e h rest = rw e (ap Some (sym (tells.is x y e)))
    go false e h rest = rw e (next_one y xs (place_among same x xs) ∙ rest h)

-- what has one place is one
pub one_place :
    {X : Type 0} (same : X → X → Bool) (tells : Tells same) (x y : X) (xs : List X) → Has same xs x → Has same xs y →
    place_among same x xs ≡ place_among same y xs → x ≡ y
one_place same tells x y xs h k e =
    let first = place_is same tells x xs h in
    let second = place_is same tells y xs k in
    let both : Some x ≡ Some y = sym first ∙ (ap (slice_get xs) e ∙ second) in
    cc
