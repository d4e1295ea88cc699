-- Cited by crates above. Items by their places, and what a list contains.
use Rattle.std.proofs.Common.{◌≡◌, ◌⊎◌, inl, inr, ℕ, zero, suc, List, [], ◌∷◌, ◌++◌, length, slice_get, Some, Contains, refl, ap, subst, ◌∙◌}
use Rattle.std.specs.List.{AllZip}
use Rattle.std.proofs.lemmas.Option.{slice_get_within, get_or_from_slice_get, slice_get-get_or}
use Rattle.term_model.proofs.Lists.{contains_none, contains_cases, contains_head, contains_later}

pub get_pushed : {X : Type 0} (xs : List X) (y x : X) (k : ℕ) → slice_get (xs ++ y ∷ []) k ≡ Some x → (slice_get xs k ≡ Some x) ⊎ ((k ≡ length xs) × (x ≡ y))
get_pushed [] y x zero e = inr (refl, cc)
get_pushed [] y x (suc k) e = absurd (cc)
get_pushed (z ∷ xs) y x zero e = inl e
get_pushed (z ∷ xs) y x (suc k) e = elim (get_pushed xs y x k e) [ inl h ↦ inl h | inr h ↦ inr (ap suc h.0, h.1) ]

pub contains_of_get : {X : Type 0} (xs : List X) (k : ℕ) (x : X) → slice_get xs k ≡ Some x → Contains xs x
contains_of_get xs k x e = (k, slice_get_within xs k x e, get_or_from_slice_get xs k x x e)

pub get_of_contains : {X : Type 0} (xs : List X) (x : X) → Contains xs x → (k : ℕ) × (slice_get xs k ≡ Some x)
get_of_contains xs x (k, inside, e) = (k, slice_get-get_or xs k x inside ∙ ap Some e)

pub length_push : {X : Type 0} (xs : List X) (x : X) → length (xs ++ x ∷ []) ≡ suc (length xs)
length_push [] x = refl
length_push (y ∷ xs) x = ap suc (length_push xs x)

pub contains_in_either : {X : Type 0} (xs ys : List X) (x : X) → Contains (xs ++ ys) x → Contains xs x ⊎ Contains ys x
contains_in_either [] ys x h = inr h
contains_in_either (y ∷ xs) ys x h =
    elim (contains_cases y x (xs ++ ys) h) [
      | inl e ↦ inl (subst (Contains (y ∷ xs)) e (contains_head y xs))
      | inr later ↦ elim (contains_in_either xs ys x later) [ inl one ↦ inl (contains_later y x xs one) | inr other ↦ inr other ]
    ]

pub contains_of_left : {X : Type 0} (xs ys : List X) (x : X) → Contains xs x → Contains (xs ++ ys) x
contains_of_left [] ys x h = absurd (contains_none x h)
contains_of_left (y ∷ xs) ys x h =
    elim (contains_cases y x xs h) [
      | inl e ↦ subst (Contains (y ∷ (xs ++ ys))) e (contains_head y (xs ++ ys))
      | inr later ↦ contains_later y x (xs ++ ys) (contains_of_left xs ys x later)
    ]

pub contains_of_right : {X : Type 0} (xs ys : List X) (x : X) → Contains ys x → Contains (xs ++ ys) x
contains_of_right [] ys x h = h
contains_of_right (y ∷ xs) ys x h = contains_later y x (xs ++ ys) (contains_of_right xs ys x h)

-- items beside each other
pub zip_get : {X Y : Type 0} (R : X → Y → Type 0) (xs : List X) (ys : List Y) (k : ℕ) (x : X) → AllZip R xs ys → slice_get xs k ≡ Some x → (y : Y) × (slice_get ys k ≡ Some y) × R x y
zip_get R [] ys k x z e = absurd (cc)
zip_get R (v ∷ xs) [] k x z e = absurd z
zip_get R (v ∷ xs) (w ∷ ys) zero x z e = (w, refl, let same : v ≡ x = cc in subst (λ a. R a w) same z.0)
zip_get R (v ∷ xs) (w ∷ ys) (suc k) x z e = zip_get R xs ys k x z.1 e

pub zip_contains : {X Y : Type 0} (R : X → Y → Type 0) (xs : List X) (ys : List Y) (x : X) → AllZip R xs ys → Contains xs x → (y : Y) × Contains ys y × R x y
zip_contains R [] ys x z h = absurd (contains_none x h)
zip_contains R (v ∷ xs) [] x z h = absurd z
zip_contains R (v ∷ xs) (w ∷ ys) x z h =
    elim (contains_cases v x xs h) [
      | inl e ↦ (w, contains_head w ys, subst (λ a. R a w) e z.0)
      | inr later ↦ (let rest = zip_contains R xs ys x z.1 later in (rest.0, contains_later w rest.0 ys rest.1, rest.2))
    ]

pub zip_contained : {X Y : Type 0} (R : X → Y → Type 0) (xs : List X) (ys : List Y) (y : Y) → AllZip R xs ys → Contains ys y → (x : X) × Contains xs x × R x y
zip_contained R [] [] y z h = absurd (contains_none y h)
zip_contained R [] (w ∷ ys) y z h = absurd z
zip_contained R (v ∷ xs) [] y z h = absurd z
zip_contained R (v ∷ xs) (w ∷ ys) y z h =
    elim (contains_cases w y ys h) [
      | inl e ↦ (v, contains_head v xs, subst (λ a. R v a) e z.0)
      | inr later ↦ (let rest = zip_contained R xs ys y z.1 later in (rest.0, contains_later v rest.0 xs rest.1, rest.2))
    ]
