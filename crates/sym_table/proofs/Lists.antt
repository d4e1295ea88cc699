-- Cited by crates above. Items of a list by their places.
use Rattle.std.proofs.Common.{◌≡◌, ◌⊎◌, inl, inr, ℕ, ◌<◌, ◌+◌, zero, suc, Bool, true, false, cond, not, List, [], ◌∷◌, ◌++◌, map, take, length, slice_get, Some, None, refl, sym, ◌∙◌, ap, subst, arith, zero-add, Decides, if◌then◌else◌}
use Rattle.std.specs.List.{position_or_len, list_any, list_all, count_by}
use Rattle.std.proofs.lemmas.Option.{none-some, same_Some}
use Rattle.std.proofs.lemmas.List.Sums.{sum_by-cons}
use Rattle.std.proofs.lemmas.Map.Keys.{any_passes_from_place}
use Rattle.std.proofs.lemmas.Bool.{true≢false}
use Rattle.indexmap.specs.IndexSet.{insert_key}
use Rattle.name_set.proofs.Positions.{slice_get-push_cases}
use Rattle.sym_table.specs.Names.{Lacks, AreApart, PlacesItem}
use Rattle.term_model.proofs.Basics.{and-left, and-right}

-- an item of the second list comes after the first
pub slice_get-right : {X : Type 0} (xs ys : List X) (k : ℕ) → slice_get (xs ++ ys) (length xs + k) ≡ slice_get ys k
slice_get-right [] ys k = ap (slice_get ys) (zero-add k)
slice_get-right (x ∷ xs) ys k =
    let next : length (x ∷ xs) + k ≡ suc (length xs + k) = omega arith in
    ap (slice_get (x ∷ (xs ++ ys))) next ∙ slice_get-right xs ys k

-- an item of two lists joined is of the first or of the second
pub slice_get-cases : {X : Type 0} (xs ys : List X) (k : ℕ) (x : X) → slice_get (xs ++ ys) k ≡ Some x → (slice_get xs k ≡ Some x) ⊎ ((j : ℕ) × (k ≡ length xs + j) × (slice_get ys j ≡ Some x))
slice_get-cases [] ys k x e = inr (k, sym (zero-add k), e)
slice_get-cases (y ∷ xs) ys zero x e = inl e
slice_get-cases (y ∷ xs) ys (suc k) x e = elim (slice_get-cases xs ys k x e) [ inl h ↦ inl h | inr h ↦ inr (h.0, (let f = h.1 in omega arith), h.2) ]

-- two functions that agree on the items make the same list of them
pub map-agree : {X Y : Type 0} (f g : X → Y) (xs : List X) → ((k : ℕ) (x : X) → slice_get xs k ≡ Some x → f x ≡ g x) → map f xs ≡ map g xs
map-agree f g [] h = refl
map-agree f g (x ∷ xs) h =
    let first = h 0 x refl in
    let rest = map-agree f g xs (λ k y e. h (suc k) y e) in
    cc

any-next : {X : Type 0} (t : X → Bool) (x : X) (xs : List X) → t x ≡ false → list_any t (x ∷ xs) ≡ list_any t xs
any-next t x xs e = rw e refl

any-here : {X : Type 0} (t : X → Bool) (x : X) (xs : List X) → t x ≡ true → list_any t (x ∷ xs) ≡ true
any-here t x xs e = rw e refl

place-next : {X : Type 0} (t : X → Bool) (x : X) (xs : List X) → t x ≡ false → position_or_len t (x ∷ xs) ≡ suc (position_or_len t xs)
place-next t x xs e = ap (λ b. cond (not b) (1 + position_or_len t xs) 0) e ∙ omega arith

place-here : {X : Type 0} (t : X → Bool) (x : X) (xs : List X) → t x ≡ true → position_or_len t (x ∷ xs) ≡ 0
place-here t x xs e = ap (λ b. cond (not b) (1 + position_or_len t xs) 0) e

-- an item that passes stands at the place that the test finds
found_place : {X : Type 0} (t : X → Bool) (xs : List X) → list_any t xs ≡ true → (x : X) × (slice_get xs (position_or_len t xs) ≡ Some x) × (t x ≡ true)
found_place t [] h = absurd (true≢false (sym h))
found_place {X} t (x ∷ xs) h = go (t x) refl (found_place t xs)
  where
    go : (b : Bool) → t x ≡ b → (list_any t xs ≡ true → (y : X) × (slice_get xs (position_or_len t xs) ≡ Some y) × (t y ≡ true)) → (y : X) × (slice_get (x ∷ xs) (position_or_len t (x ∷ xs)) ≡ Some y) × (t y ≡ true)
    go true e rest = (x, ap (slice_get (x ∷ xs)) (place-here t x xs e), e)
    go false e rest =
        let r = rest (sym (any-next t x xs e) ∙ h) in
        (r.0, ap (slice_get (x ∷ xs)) (place-next t x xs e) ∙ r.1, r.2)

-- where none passes, the test finds the end
end_place : {X : Type 0} (t : X → Bool) (xs : List X) → list_any t xs ≡ false → position_or_len t xs ≡ length xs
end_place t [] h = refl
end_place t (x ∷ xs) h = go (t x) refl (end_place t xs)
  where
    go : (b : Bool) → t x ≡ b → (list_any t xs ≡ false → position_or_len t xs ≡ length xs) → position_or_len t (x ∷ xs) ≡ length (x ∷ xs)
    go true e rest = absurd (true≢false (sym (any-here t x xs e) ∙ h))
    go false e rest = place-next t x xs e ∙ ap suc (rest (sym (any-next t x xs e) ∙ h))

-- what `insert_full` does, where the keys' `==` is equality
pub insert_key-places : {K : Type 0} (eq : K → K → Bool) → ((x y : K) → Decides (eq x y) (x ≡ y)) → (keys : List K) (key : K) → PlacesItem keys (insert_key eq keys key) (position_or_len (eq key) keys) key
insert_key-places eq decides keys key = go (list_any (eq key) keys) refl
  where
    go : (b : Bool) → list_any (eq key) keys ≡ b → PlacesItem keys (insert_key eq keys key) (position_or_len (eq key) keys) key
    go true e =
        let at = found_place (eq key) keys e in
        inl (at.1 ∙ ap Some (sym ((decides key at.0).0 at.2)), ap (λ b. if b then keys else keys ++ key ∷ []) e)
    go false e = inr (λ k g. true≢false (sym (any_passes_from_place (eq key) keys k key g ((decides key key).1 refl)) ∙ e), end_place (eq key) keys e, ap (λ b. if b then keys else keys ++ key ∷ []) e)

-- the items before a push are those of the list
pub slice_get-kept : {X : Type 0} (xs ys : List X) (k : ℕ) → k < length xs → slice_get (xs ++ ys) k ≡ slice_get xs k
slice_get-kept [] ys k h = absurd (omega arith)
slice_get-kept (x ∷ xs) ys zero h = refl
slice_get-kept (x ∷ xs) ys (suc k) h = slice_get-kept xs ys k (omega arith)

-- as many pass in the image of a list as in the list, up to any place
pub count_by-take-map : {X Y : Type 0} (p : Y → Bool) (q : X → Bool) (f : X → Y) (xs : List X) (n : ℕ) → ((k : ℕ) (x : X) → slice_get xs k ≡ Some x → p (f x) ≡ q x) → count_by p (take n (map f xs)) ≡ count_by q (take n xs)
count_by-take-map p q f [] zero h = refl
count_by-take-map p q f [] (suc n) h = refl
count_by-take-map p q f (x ∷ xs) zero h = refl
count_by-take-map p q f (x ∷ xs) (suc n) h =
    let first = h 0 x refl in
    let rest = count_by-take-map p q f xs n (λ k y e. h (suc k) y e) in
    sum_by-cons (λ y. cond (p y) 1 0) (f x) (take n (map f xs)) ∙ ap (λ b. cond b 1 0 + count_by p (take n (map f xs))) first ∙ ap (λ m. cond (q x) 1 0 + m) rest ∙ sym (sum_by-cons (λ y. cond (q y) 1 0) x (take n xs))

-- a new item keeps the items apart
pub AreApart-push : {X : Type 0} (xs : List X) (x : X) → AreApart xs → Lacks xs x → AreApart (xs ++ x ∷ [])
AreApart-push {X} xs x apart lacks j k y e f = go (slice_get-push_cases xs x j y e) (slice_get-push_cases xs x k y f)
  where
    go : (slice_get xs j ≡ Some y) ⊎ ((j ≡ length xs) × (x ≡ y)) → (slice_get xs k ≡ Some y) ⊎ ((k ≡ length xs) × (x ≡ y)) → j ≡ k
    go (inl a) (inl b) = apart j k y a b
    go (inl a) (inr b) = absurd (lacks j (a ∙ ap Some (sym b.1)))
    go (inr a) (inl b) = absurd (lacks k (b ∙ ap Some (sym a.1)))
    go (inr a) (inr b) = a.0 ∙ sym b.0

pub AreApart-PlacesItem : {X : Type 0} (old new : List X) (k : ℕ) (x : X) → AreApart old → PlacesItem old new k x → AreApart new
AreApart-PlacesItem old new k x apart (inl h) = subst AreApart (sym h.1) apart
AreApart-PlacesItem old new k x apart (inr h) = subst AreApart (sym h.2) (AreApart-push old x apart h.0)

-- what passes a test that all items pass
pub passes_at : {X : Type 0} (p : X → Bool) (xs : List X) (k : ℕ) (x : X) → list_all p xs ≡ true → slice_get xs k ≡ Some x → p x ≡ true
passes_at p [] k x h e = absurd (none-some x e)
passes_at p (y ∷ xs) zero x h e = ap p (sym (same_Some y x e)) ∙ and-left (p y) (list_all p xs) h
passes_at p (y ∷ xs) (suc k) x h e = passes_at p xs k x (and-right (p y) (list_all p xs) h) e

-- an item within the list is there
pub slice_get-there : {X : Type 0} (xs : List X) (k : ℕ) → k < length xs → slice_get xs k ≡ None → ⊥
slice_get-there [] k h e = absurd (omega arith)
slice_get-there (x ∷ xs) zero h e = none-some x (sym e)
slice_get-there (x ∷ xs) (suc k) h e = slice_get-there xs k (omega arith) e
