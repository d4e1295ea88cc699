-- Numbers that ascend and of which each below a count stands there once are these numbers in order, and the pieces beside
-- them those of all chunks.
use Rattle.std.proofs.Common.{◌≡◌, ◌+◌, ◌-◌, ◌<◌, ◌≤◌, ◌⊎◌, inl, inr, ℕ, zero, suc, List, [], ◌∷◌, length, map, get_or, refl, sym, ◌∙◌, ap, subst, arith}
use lib.Dec.{ltb, eqb}
use mathlib.Core.Bool.{cond}
use Rattle.std.proofs.lemmas.Bool.{cases_lt, cases_eq, lt-ltb, le-ltb, eq-eqb, ne_eqb}
use Rattle.std.proofs.lemmas.List.{get_or-map, length-map}
use Rattle.std.proofs.lemmas.List.Elements.{All-get_or}
use Rattle.std.proofs.lemmas.List.Sums.{sum_by-cons}
use Rattle.std.proofs.lemmas.List.Sorted.{IsPermutation-map, All-permutation, sum_by-IsPermutation}
use Rattle.std.specs.List.Sorted.{IsNonDecreasingBy}
use Rattle.step_claimer.specs.Claims.{HasEachOnce}
use Rattle.step_claimer.specs.Drawers.{times}
use Rattle.worker_crew.specs.Pieces.{AreAllDone}
use Rattle.worker_crew.specs.Working.{AreDone, AreInOrder}

-- from a number on, ascending
abbrev Ascend : ℕ → List ℕ → Type 0
Ascend low [] = Unit {0}
Ascend low (x ∷ xs) = (low ≤ x) × Ascend x xs

ascend_pairs : {P : Type 0} (x : ℕ × P) (xs : List (ℕ × P)) → IsNonDecreasingBy (λ (p : ℕ × P). p.0) (x ∷ xs) → Ascend x.0 (map (λ (p : ℕ × P). p.0) xs)
ascend_pairs x [] up = tt
ascend_pairs x (y ∷ ys) up = (
  up 0 1 x (omega arith) (omega arith),
  ascend_pairs y ys (λ i j d less below. up (suc i) (suc j) d (omega (arith, less)) (omega (arith, below))),
)

ascend_all : {P : Type 0} (xs : List (ℕ × P)) → IsNonDecreasingBy (λ (p : ℕ × P). p.0) xs → Ascend 0 (map (λ (p : ℕ × P). p.0) xs)
ascend_all [] up = tt
ascend_all (x ∷ xs) up = (omega arith, ascend_pairs x xs up)

ascend_lower : (xs : List ℕ) (low high : ℕ) → low ≤ high → Ascend high xs → Ascend low xs
ascend_lower [] low high le h = tt
ascend_lower (x ∷ xs) low high le h = (let first = h.0 in omega (arith, first, le), h.1)

-- how often a number stands at the head
abbrev head_count : ℕ → ℕ → ℕ
head_count x y = cond (eqb x y) 1 0

is_head : (x y : ℕ) → x ≡ y → head_count x y ≡ 1
is_head x y e = rw (eq-eqb x y e) refl

is_no_head : (x y : ℕ) → (x ≡ y → ⊥) → head_count x y ≡ 0
is_no_head x y e = rw (ne_eqb x y e) refl

times_cons : (y x : ℕ) (xs : List ℕ) → times y (x ∷ xs) ≡ head_count x y + times y xs
times_cons y x xs = sum_by-cons (λ z. cond (eqb z y) 1 0) x xs

none_below : (xs : List ℕ) (low y : ℕ) → y < low → Ascend low xs → times y xs ≡ 0
none_below [] low y below h = refl
none_below (x ∷ xs) low y below h =
    let first = h.0 in
    let head = is_no_head x y (λ e. omega (arith, e, first, below)) in
    let rest = none_below xs x y (omega (arith, first, below)) h.1 in
    let whole : times y (x ∷ xs) ≡ head_count x y + times y xs = times_cons y x xs in
    omega (arith, head, rest, whole)

ascend_next : (xs : List ℕ) (low : ℕ) → Ascend low xs → times low xs ≡ 0 → Ascend (low + 1) xs
ascend_next [] low h none = tt
ascend_next (x ∷ xs) low h none = go (cases_eq x low)
  where
    go : (x ≡ low) ⊎ (x ≡ low → ⊥) → Ascend (low + 1) (x ∷ xs)
    go (inl same) =
        let head = is_head x low same in
        let whole : times low (x ∷ xs) ≡ head_count x low + times low xs = times_cons low x xs in
        absurd (omega (arith, head, whole, none))
    go (inr other) = let first = h.0 in (omega (arith, first, other), h.1)

abbrev once : ℕ → ℕ → ℕ
once x n = cond (ltb x n) 1 0

once_below : (x n : ℕ) → x < n → once x n ≡ 1
once_below x n below = rw (lt-ltb x n below) refl

once_above : (x n : ℕ) → n ≤ x → once x n ≡ 0
once_above x n above = rw (le-ltb x n above) refl

below_of_once : (x n k : ℕ) → once x n ≡ 1 + k → x < n
below_of_once x n k e = elim (cases_lt x n) [
  | inl below ↦ below
  | inr above ↦ (let none = once_above x n above in absurd (omega (arith, e, none)))
]

abbrev AreAllFrom : ℕ → ℕ → List ℕ → Type 0
AreAllFrom low n xs = (length xs ≡ n - low) × ((i : ℕ) → i < length xs → get_or xs i 0 ≡ low + i)

all_from : (xs : List ℕ) (low n : ℕ) → Ascend low xs → ((x : ℕ) → low ≤ x → times x xs ≡ once x n) → AreAllFrom low n xs
all_from [] low n up each = (
  elim (cases_lt low n) [
    | inl below ↦ (let e = each low (omega arith) in let one = once_below low n below in absurd (omega (arith, e, one)))
    | inr above ↦ omega (arith, above)
  ],
  λ i below. absurd (omega (arith, below)),
)
all_from (y ∷ ys) low n up each =
    let first = up.0 in
    let here : times y (y ∷ ys) ≡ head_count y y + times y ys = times_cons y y ys in
    let head = is_head y y refl in
    let at_y = each y first in
    let inside : y < n = below_of_once y n (times y ys) (omega (arith, here, head, at_y)) in
    let one = once_below y n inside in
    let no_more : times y ys ≡ 0 = omega (arith, here, head, at_y, one) in
    go (λ a b. all_from ys (low + 1) n a b) (cases_lt low y) inside no_more
  where
    later : (y ≡ low) → (x : ℕ) → low + 1 ≤ x → times x ys ≡ once x n
    later same x le =
        let whole : times x (y ∷ ys) ≡ head_count y x + times x ys = times_cons x y ys in
        let head = is_no_head y x (λ e. omega (arith, e, same, le)) in
        let at = each x (omega (arith, le)) in
        omega (arith, whole, head, at)

    index : (y ≡ low) → AreAllFrom (low + 1) n ys → (i : ℕ) → i < suc (length ys) → get_or (y ∷ ys) i 0 ≡ low + i
    index same rest zero below = omega (arith, same)
    index same rest (suc i) below = let e = rest.1 i (omega (arith, below)) in omega (arith, e)

    go : (Ascend (low + 1) ys → ((x : ℕ) → low + 1 ≤ x → times x ys ≡ once x n) → AreAllFrom (low + 1) n ys) → (low < y) ⊎ (y ≤ low) → y < n → times y ys ≡ 0 → AreAllFrom low n (y ∷ ys)
    go next (inl gap) inside no_more =
        let e = each low (omega arith) in
        let none = none_below (y ∷ ys) y low gap (let le : y ≤ y = omega arith in (le, up.1)) in
        let one = once_below low n (omega (arith, gap, inside)) in
        absurd (omega (arith, e, none, one))
    go next (inr at) inside no_more =
        let first = up.0 in
        let same : y ≡ low = omega (arith, at, first) in
        let rest = next (ascend_next ys low (ascend_lower ys low y first up.1) (subst (λ z. times z ys ≡ 0) same no_more)) (later same) in
        let long = rest.0 in
        (omega (arith, long, same, inside), index same rest)

-- ---- pieces with their numbers

module _ {P : Type 0} (says : ℕ → P → Type 0) (numbers : List ℕ) (n : ℕ) (pieces : List (ℕ × P)) (all : List P)
    (done : AreDone says numbers pieces) (once_each : HasEachOnce n numbers) (h : AreInOrder pieces all) where
  abbrev number_of : ℕ × P → ℕ
  number_of p = p.0

  abbrev piece_of : ℕ × P → P
  piece_of p = p.1

  abbrev sorted : List ℕ
  sorted = map number_of h.ordered

  times_same : (x : ℕ) → times x sorted ≡ once x n
  times_same x =
      sum_by-IsPermutation (λ y. cond (eqb y x) 1 0) (map number_of pieces) sorted (IsPermutation-map number_of pieces h.ordered h.same)
      ∙ (ap (times x) done.are ∙ once_each x)

  numbers_are : AreAllFrom 0 n sorted
  numbers_are = all_from sorted 0 n (ascend_all h.ordered h.ascending) (λ x le. times_same x)

  long : length h.ordered ≡ n
  long = let a = length-map h.ordered number_of in let b = numbers_are.0 in omega (arith, a, b)

  number_at : (k : ℕ) (d : ℕ × P) → k < n → number_of (get_or h.ordered k d) ≡ k
  number_at k d below =
      let a = length-map h.ordered number_of in
      let inside : k < length h.ordered = omega (arith, below, long) in
      let e = get_or-map number_of h.ordered k d 0 inside in
      let f = numbers_are.1 k (omega (arith, a, inside)) in
      omega (arith, e, f)

  said_at : (k : ℕ) (d : P) → k < n → says k (get_or all k d)
  said_at k d below =
      let inside : k < length h.ordered = omega (arith, below, long) in
      let said = All-get_or (λ (p : ℕ × P). says p.0 p.1) h.ordered k (k, d) inside (All-permutation (λ (p : ℕ × P). says p.0 p.1) pieces h.ordered h.same done.say) in
      let here : get_or all k d ≡ piece_of (get_or h.ordered k (k, d)) = ap (λ z. get_or z k d) h.are ∙ get_or-map piece_of h.ordered k (k, d) d inside in
      subst (says k) (sym here) (subst (λ m. says m (piece_of (get_or h.ordered k (k, d)))) (number_at k (k, d) below) said)

  pub all_are_done : AreAllDone says n all
  all_are_done = record {
    one_each = ap length h.are ∙ (length-map h.ordered piece_of ∙ long);
    say = said_at;
  }
