-- Private. Places in a list of first occurrences stay as the list grows.
use Rattle.std.proofs.Common.{◌≡◌, refl, sym, ap, ◌∙◌, ◌+◌, Bool, true, false, not, ◌||◌, if◌then◌else◌, List, [], ◌∷◌, ◌++◌, length, arith}
use Rattle.std.proofs.lemmas.List.{append_assoc, append-nil}
use Rattle.std.specs.List.{list_any}
use Rattle.hole_fillers.specs.Questions.{firsts_behind, place_among}
use Rattle.hole_questions.specs.States.{added}

module _ {X : Type 0} (same : X → X → Bool) where
  abbrev pub has : List X → X → Bool
  has xs x = list_any (same x) xs

  place_kept : (x : X) (xs ys : List X) → has xs x ≡ true → place_among same x (xs ++ ys) ≡ place_among same x xs
  place_kept x [] ys h = absurd cc
  place_kept x (y ∷ xs) ys h = go (same x y) h (place_kept x xs ys)
    where
      go : (b : Bool) → (b || has xs x) ≡ true → (has xs x ≡ true → place_among same x (xs ++ ys) ≡ place_among same x xs) →
          (if not b then 1 + place_among same x (xs ++ ys) else 0) ≡ (if not b then 1 + place_among same x xs else 0)
      go true h rest = refl
      go false h rest = ap (λ n. 1 + n) (rest h)

  has_left : (x : X) (xs ys : List X) → has xs x ≡ true → has (xs ++ ys) x ≡ true
  has_left x [] ys h = absurd cc
  has_left x (y ∷ xs) ys h = go (same x y) h (has_left x xs ys)
    where
      go : (b : Bool) → (b || has xs x) ≡ true → (has xs x ≡ true → has (xs ++ ys) x ≡ true) → (b || has (xs ++ ys) x) ≡ true
      go true h rest = refl
      go false h rest = rest h

  module _ (alike : (x : X) → same x x ≡ true) where
    -- of what is not there yet, and is put at the end
    pub place_last : (x : X) (xs ys : List X) → has xs x ≡ false → place_among same x (xs ++ x ∷ ys) ≡ length xs
    place_last x [] ys h = let e = alike x in rw e refl
    place_last x (y ∷ xs) ys h = go (same x y) h (place_last x xs ys)
      where
        go : (b : Bool) → (b || has xs x) ≡ false → (has xs x ≡ false → place_among same x (xs ++ x ∷ ys) ≡ length xs) →
            (if not b then 1 + place_among same x (xs ++ x ∷ ys) else 0) ≡ length (y ∷ xs)
        go true h rest = absurd cc
        go false h rest = let e = rest h in omega (arith, e)

    place_none : (x : X) (xs : List X) → has xs x ≡ false → place_among same x xs ≡ length xs
    place_none x [] h = refl
    place_none x (y ∷ xs) h = go (same x y) h (place_none x xs)
      where
        go : (b : Bool) → (b || has xs x) ≡ false → (has xs x ≡ false → place_among same x xs ≡ length xs) →
            (if not b then 1 + place_among same x xs else 0) ≡ length (y ∷ xs)
        go true h rest = absurd cc
        go false h rest = let e = rest h in omega (arith, e)

    has_last : (x : X) (xs : List X) → has (xs ++ x ∷ []) x ≡ true
    has_last x [] = let e = alike x in rw e refl
    has_last x (y ∷ xs) = go (same x y) (has_last x xs)
      where
        go : (b : Bool) → has (xs ++ x ∷ []) x ≡ true → (b || has (xs ++ x ∷ []) x) ≡ true
        go true h = refl
        go false h = h

    place_added : (x : X) (xs : List X) → place_among same x (added same xs x) ≡ place_among same x xs
    place_added x xs = go (has xs x) refl
      where
        go : (b : Bool) → has xs x ≡ b → place_among same x (if b then xs else xs ++ x ∷ []) ≡ place_among same x xs
        go true e = refl
        go false e = place_last x xs [] e ∙ sym (place_none x xs e)

    has_added : (x : X) (xs : List X) → has (added same xs x) x ≡ true
    has_added x xs = go (has xs x) refl
      where
        go : (b : Bool) → has xs x ≡ b → has (if b then xs else xs ++ x ∷ []) x ≡ true
        go true e = e
        go false e = has_last x xs

    place_stays : (x : X) (seen ys : List X) → has seen x ≡ true → place_among same x (firsts_behind same seen ys) ≡ place_among same x seen
    place_stays x seen [] h = refl
    place_stays x seen (y ∷ ys) h = go (has seen y) (place_stays x seen ys h) (place_stays x (seen ++ y ∷ []) ys (has_left x seen (y ∷ []) h))
      where
        go : (b : Bool) → place_among same x (firsts_behind same seen ys) ≡ place_among same x seen →
            place_among same x (firsts_behind same (seen ++ y ∷ []) ys) ≡ place_among same x (seen ++ y ∷ []) →
            place_among same x (firsts_behind same (if b then seen else seen ++ y ∷ []) ys) ≡ place_among same x seen
        go true k l = k
        go false k l = l ∙ place_kept x seen (y ∷ []) h

    -- the place of the next one in the whole list is the one that it has now
    pub place_first : (x : X) (seen ys : List X) → place_among same x (firsts_behind same seen (x ∷ ys)) ≡ place_among same x seen
    place_first x seen ys = place_stays x (added same seen x) ys (has_added x seen) ∙ place_added x seen

  -- each is none of those before it
  abbrev pub AreFresh : List X → List X → Type 0
  AreFresh seen [] = Unit {0}
  AreFresh seen (x ∷ xs) = (has seen x ≡ false) × AreFresh (seen ++ x ∷ []) xs

  pub record AddsFresh (seen whole : List X) : Type 0 where
    pub others : List X
    pub is : whole ≡ seen ++ others
    pub fresh : AreFresh seen others

  pub firsts_fresh : (seen xs : List X) → AddsFresh seen (firsts_behind same seen xs)
  firsts_fresh seen [] = record { others = []; is = sym (append-nil seen); fresh = tt }
  firsts_fresh seen (x ∷ xs) = go (has seen x) refl (firsts_fresh seen xs) (firsts_fresh (seen ++ x ∷ []) xs)
    where
      go : (b : Bool) → has seen x ≡ b → AddsFresh seen (firsts_behind same seen xs) → AddsFresh (seen ++ x ∷ []) (firsts_behind same (seen ++ x ∷ []) xs) →
          AddsFresh seen (firsts_behind same (if b then seen else seen ++ x ∷ []) xs)
      go true e q r = q
      go false e q r =
          record { others = x ∷ r.others; is = r.is ∙ append_assoc seen (x ∷ []) r.others; fresh = (e, r.fresh) }
