-- Lists that stand end to end.
use Rattle.std.proofs.Common.{◌≡◌, ◌≤◌, ◌<◌, ◌-◌, ◌+◌, ℕ, zero, suc, List, [], ◌∷◌, ◌++◌, length, take, drop, replicate, slice_get, slice_index, slice_index_or, Some, refl, sym, ◌∙◌, ap, arith}
use Rattle.std.proofs.lemmas.List.{length-append, length-replicate, length-drop, length-take-le, drop-append-le, take-append-le, drop-take, take-take}
use Rattle.std.proofs.Math.Seq.{take-length, drop-append_seam}
use Rattle.proof_store.specs.Lists.{parts, start_of, AreListEnds, filled, SameBelow}

-- as many lists as ends
pub parts_count : {X : Type 0} (start : ℕ) (es : List ℕ) (xs : List X) → length (parts start es xs) ≡ length es
parts_count start [] xs = refl
parts_count start (e ∷ es) xs = ap suc (parts_count e es xs)

-- the list at a place
pub parts_get : {X : Type 0} (start : ℕ) (es : List ℕ) (xs : List X) (i : ℕ) → i < length es → slice_get (parts start es xs) i ≡ Some (take (slice_index es i - start_of start es i) (drop (start_of start es i) xs))
parts_get start [] xs i h = absurd (omega arith)
parts_get start (e ∷ es) xs zero h = refl
parts_get start (e ∷ es) xs (suc i) h = parts_get e es xs i (omega arith)

-- a list starts where the one before it ends
pub start_before : (start : ℕ) (es : List ℕ) (i : ℕ) → i < length es → start_of start es (suc i) ≡ slice_index es i
start_before start [] i h = absurd (omega arith)
start_before start (e ∷ es) zero h = refl
start_before start (e ∷ es) (suc i) h = start_before e es i (omega arith)

pub ends_go_up : (start : ℕ) (es : List ℕ) (end : ℕ) → AreListEnds start es end → start ≤ end
ends_go_up start [] end h = omega arith
ends_go_up start (e ∷ es) end h = let rest = ends_go_up e es end h.1 in let first = h.0 in omega arith

-- a list starts before it ends, and ends within the items
pub starts_before_end : (start : ℕ) (es : List ℕ) (end i : ℕ) → AreListEnds start es end → i < length es → start_of start es i ≤ slice_index es i
starts_before_end start [] end i h l = absurd (omega arith)
starts_before_end start (e ∷ es) end zero h l = h.0
starts_before_end start (e ∷ es) end (suc i) h l = starts_before_end e es end i h.1 (omega arith)

pub ends_within : (start : ℕ) (es : List ℕ) (end i : ℕ) → AreListEnds start es end → i < length es → slice_index es i ≤ end
ends_within start [] end i h l = absurd (omega arith)
ends_within start (e ∷ es) end zero h l = ends_go_up e es end h.1
ends_within start (e ∷ es) end (suc i) h l = ends_within e es end i h.1 (omega arith)

-- a list that starts within the items
same_part : {X : Type 0} (start e : ℕ) (xs ys : List X) → start ≤ e → e ≤ length xs → take (e - start) (drop start (xs ++ ys)) ≡ take (e - start) (drop start xs)
same_part start e xs ys h l =
    let within : e - start ≤ length (drop start xs) = rw (length-drop start xs) (omega arith) in
    rw (drop-append-le start xs ys (omega arith)) (take-append-le (e - start) (drop start xs) ys within)

-- one more list
pub parts_add : {X : Type 0} (start : ℕ) (es : List ℕ) (xs ys : List X) → AreListEnds start es (length xs) → parts start (es ++ length (xs ++ ys) ∷ []) (xs ++ ys) ≡ parts start es xs ++ ys ∷ []
parts_add start [] xs ys h = rw (h, length-append xs ys) (ap (λ l. l ∷ []) (last xs ys))
  where
    last : {X : Type 0} (xs ys : List X) → take ((length xs + length ys) - length xs) (drop (length xs) (xs ++ ys)) ≡ ys
    last xs ys =
        let count : (length xs + length ys) - length xs ≡ length ys = omega arith in
        rw (count, drop-append_seam xs ys) (take-length ys)
parts_add start (e ∷ es) xs ys h =
    rw (same_part start e xs ys h.0 (ends_go_up e es (length xs) h.1)) (ap (λ l. take (e - start) (drop start xs) ∷ l) (parts_add e es xs ys h.1))

pub ends_add : (start : ℕ) (es : List ℕ) (end n : ℕ) → AreListEnds start es end → end ≤ n → AreListEnds start (es ++ n ∷ []) n
ends_add start [] end n h l = (omega arith, refl)
ends_add start (e ∷ es) end n h l = (h.0, ends_add e es end n h.1 l)

-- the lists up to a place
pub starts_within : (start : ℕ) (es : List ℕ) (end i : ℕ) → AreListEnds start es end → i ≤ length es → start_of start es i ≤ end
starts_within start es end zero h l = ends_go_up start es end h
starts_within start [] end (suc i) h l = absurd (omega arith)
starts_within start (e ∷ es) end (suc i) h l = starts_within e es end i h.1 (omega arith)

pub starts_after : (start : ℕ) (es : List ℕ) (end i : ℕ) → AreListEnds start es end → i ≤ length es → start ≤ start_of start es i
starts_after start es end zero h l = omega arith
starts_after start [] end (suc i) h l = absurd (omega arith)
starts_after start (e ∷ es) end (suc i) h l = let rest = starts_after e es end i h.1 (omega arith) in let first = h.0 in omega arith

pub ends_take : (start : ℕ) (es : List ℕ) (end i : ℕ) → AreListEnds start es end → i ≤ length es → AreListEnds start (take i es) (start_of start es i)
ends_take start es end zero h l = refl
ends_take start [] end (suc i) h l = absurd (omega arith)
ends_take start (e ∷ es) end (suc i) h l = (h.0, ends_take e es end i h.1 (omega arith))

-- a part that ends before the items are cut
cut_part : {X : Type 0} (start e n : ℕ) (xs : List X) → e ≤ n → start ≤ e → take (e - start) (drop start (take n xs)) ≡ take (e - start) (drop start xs)
cut_part start e n xs h l =
    let whole : start + (n - start) ≡ n = omega arith in
    ap (λ k. take (e - start) (drop start (take k xs))) (sym whole)
    ∙ (ap (λ ys. take (e - start) ys) (drop-take start (n - start) xs) ∙ take-take (e - start) (n - start) (drop start xs) (omega arith))

pub parts_take : {X : Type 0} (start : ℕ) (es : List ℕ) (xs : List X) (i : ℕ) → AreListEnds start es (length xs) → i ≤ length es → parts start (take i es) (take (start_of start es i) xs) ≡ take i (parts start es xs)
parts_take start es xs zero h l = refl
parts_take start [] xs (suc i) h l = absurd (omega arith)
parts_take start (e ∷ es) xs (suc i) h l =
    rw (cut_part start e (start_of e es i) xs (starts_after e es (length xs) i h.1 (omega arith)) h.0) (ap (λ t. take (e - start) (drop start xs) ∷ t) (parts_take e es xs i h.1 (omega arith)))

pub ends_cut : {X : Type 0} (es : List ℕ) (xs : List X) (i : ℕ) → AreListEnds 0 es (length xs) → i ≤ length es → AreListEnds 0 (take i es) (length (take (start_of 0 es i) xs))
ends_cut es xs i h l = rw (length-take-le (start_of 0 es i) xs (starts_within 0 es (length xs) i h l)) (ends_take 0 es (length xs) i h l)

pub parts_all : {X : Type 0} (start : ℕ) (es : List ℕ) (xs : List X) (i : ℕ) → length es ≤ i → parts start es xs ≡ take i (parts start es xs)
parts_all start [] xs zero h = refl
parts_all start [] xs (suc i) h = refl
parts_all start (e ∷ es) xs zero h = absurd (omega arith)
parts_all start (e ∷ es) xs (suc i) h = ap (λ t. take (e - start) (drop start xs) ∷ t) (parts_all e es xs i (omega arith))

pub count_cut : (es : List ℕ) (i : ℕ) → i ≤ length es → length (take i es) ≤ i
count_cut es i h = rw (length-take-le i es h) (omega arith)

-- the last one ends where the items do
pub last_ends : (es : List ℕ) (end : ℕ) → AreListEnds 0 es end → 0 < length es → slice_index es (length es - 1) ≡ end
last_ends es end h some = from 0 es end h some
  where
    from : (start : ℕ) (es : List ℕ) (end : ℕ) → AreListEnds start es end → 0 < length es → slice_index es (length es - 1) ≡ end
    from start [] end h some = absurd (omega arith)
    from start (e ∷ []) end h some = h.1
    from start (e ∷ f ∷ es) end h some =
        let rest = from e (f ∷ es) end h.1 (omega arith) in
        let there : length (e ∷ f ∷ es) - 1 ≡ suc (length (f ∷ es) - 1) = omega arith in
        rw there rest

-- empty lists behind all others
pub is_filled : (i : ℕ) (es : List ℕ) (last end : ℕ) → length es ≤ i → last ≡ end → take i es ++ replicate (i - length es) last ≡ filled i es end
is_filled i es last end l same = rw (same, whole i es l) refl
  where
    whole : (i : ℕ) (es : List ℕ) → length es ≤ i → take i es ≡ es
    whole zero [] l = refl
    whole (suc i) [] l = refl
    whole zero (e ∷ es) l = absurd (omega arith)
    whole (suc i) (e ∷ es) l = ap (λ t. e ∷ t) (whole i es (omega arith))

pub filled_ends : (i : ℕ) (es : List ℕ) (end : ℕ) → AreListEnds 0 es end → AreListEnds 0 (filled i es end) end
filled_ends i es end h = from 0 es end (i - length es) h
  where
    from : (start : ℕ) (es : List ℕ) (end n : ℕ) → AreListEnds start es end → AreListEnds start (es ++ replicate n end) end
    from start [] end zero h = h
    from start [] end (suc n) h = (omega arith, from end [] end n refl)
    from start (e ∷ es) end n h = (h.0, from e es end n h.1)

pub filled_parts : {X : Type 0} (i : ℕ) (es : List ℕ) (xs : List X) → AreListEnds 0 es (length xs) → SameBelow i (parts 0 es xs) (parts 0 (filled i es (length xs)) xs)
filled_parts i es xs h k l = from 0 es xs (i - length es) k h
  where
    from : {X : Type 0} (start : ℕ) (es : List ℕ) (xs : List X) (n k : ℕ) → AreListEnds start es (length xs) → slice_index_or (parts start (es ++ replicate n (length xs)) xs) k [] ≡ slice_index_or (parts start es xs) k []
    from start [] xs zero k h = refl
    from start [] xs (suc n) zero h = let none : length xs - start ≡ 0 = omega arith in rw none refl
    from start [] xs (suc n) (suc k) h = from (length xs) [] xs n k refl
    from start (e ∷ es) xs n zero h = refl
    from start (e ∷ es) xs n (suc k) h = from e es xs n k h.1

pub filled_count : {X : Type 0} (i : ℕ) (es : List ℕ) (xs : List X) (end : ℕ) → length es ≤ i → length (parts 0 (filled i es end) xs) ≡ i
filled_count i es xs end h =
    parts_count 0 (filled i es end) xs ∙ (length-append es (replicate (i - length es) end) ∙ rw (length-replicate (i - length es) end) (omega arith))

pub ruleset parts_filled = (filled_ends, filled_parts, filled_count)
