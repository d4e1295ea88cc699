-- Sorted clauses.
use Rattle.std.proofs.Common.{◌≡◌, ◌≢◌, ◌↔◌, inl, inr, ℕ, suc, ◌+◌, ◌-◌, ◌<◌, ◌≤◌, List, [], ◌∷◌, length, take, get_or, Bool, true, false, nat_eq, IsTrue, All, AllPairs, Contains, IsPermutation, Result, Ok, Err, refl, sym, ◌∙◌, ap, subst, arith}
use Rattle.std.specs.Bool.{Decides}
use Rattle.std.specs.List.{sum_by}
use Rattle.std.specs.List.Sorted.{IsNonDecreasing, IsBinarySearchResult}
use Rattle.std.specs.Ordering.{nat_cmp}
use Rattle.std.specs.Result.{is_ok, MatchResult}
use Rattle.std.proofs.lemmas.Bool.{cases_lt, cases_eq, eqb-true, eq-eqb}
use Rattle.std.proofs.lemmas.Bool.Decides.{Decides-eqb, nat_tests}
use Rattle.std.proofs.lemmas.List.{get_or_default, take_more, take_all}
use Rattle.std.proofs.lemmas.List.Elements.{All-push, All-weaker}
use Rattle.std.proofs.lemmas.List.Kept.{AllPairs-from_increasing}
use Rattle.std.proofs.lemmas.List.Sorted.{searched, Contains-permutation, sum_by-IsPermutation, IsPermutation-sym, IsPermutation-trans}
use Rattle.std.proofs.lemmas.List.Sums.{sum_by-cons}
use Rattle.std.proofs.lemmas.Map.Keys.{IsDistinct-IsPermutation}
use Rattle.std.proofs.lemmas.Map.Made.{AllPairs-from_IsDistinct, IsDistinct-from_AllPairs}
use Rattle.rules_clausal.specs.Sorting.{IsInOrder, HasAllOnce}

-- what a search among sorted literals finds
pub has_is : (xs : List ℕ) (x : ℕ) (r : Result ℕ ℕ) (b : Bool) → IsNonDecreasing xs → IsBinarySearchResult (λ y. nat_cmp y x) xs r → b ≡ is_ok r → IsTrue b ↔ Contains xs x
has_is xs x r b rising search same =
    rw same (go r (searched xs x r search (λ i j le below. rising i j 0 le below)))
  where
    go : (r : Result ℕ ℕ) → MatchResult r (λ i. (i < length xs) × (get_or xs i 0 ≡ x)) (λ i. (i ≤ length xs) × ((k : ℕ) → k < i → get_or xs k 0 < x) × ((k : ℕ) → i ≤ k → k < length xs → x < get_or xs k 0)) → IsTrue (is_ok r) ↔ Contains xs x
    go (Ok i) (below, is) = (λ e. (i, below, get_or_default xs i x 0 below ∙ is), λ c. refl)
    go (Err i) (within, less, more) = (λ e. absurd cc, λ (k, below, is). absurd (none k below (get_or_default xs k 0 x below ∙ is)))
      where
        none : (k : ℕ) → k < length xs → get_or xs k 0 ≡ x → ⊥
        none k below is =
            elim (cases_lt k i) [
              | inl early ↦ (let h = less k early in omega arith)
              | inr late ↦ (let h = more k late below in omega arith)
            ]

-- neighbours in a sorted list that differ
abbrev pub Rises : List ℕ → ℕ → Type 0
Rises xs i = (k : ℕ) → k + 1 < i → get_or xs k 0 < get_or xs (k + 1) 0

pub rises_none : (xs : List ℕ) → Rises xs 1
rises_none xs k below = absurd (omega arith)

pub rises_more : (xs : List ℕ) (i x y : ℕ) → 1 ≤ i → i < length xs → IsNonDecreasing xs → x ≡ get_or xs (i - 1) x → y ≡ get_or xs i y → x ≢ y → Rises xs i → Rises xs (i + 1)
rises_more xs i x y some below rising is also other so_far k near =
    elim (cases_eq (k + 1) i) [
      | inl here ↦ at_end here
      | inr before ↦ so_far k (omega arith)
    ]
  where
    first : get_or xs (i - 1) 0 ≡ x
    first = get_or_default xs (i - 1) 0 x (omega arith) ∙ sym is

    second : get_or xs i 0 ≡ y
    second = get_or_default xs i 0 y below ∙ sym also

    at_end : k + 1 ≡ i → get_or xs k 0 < get_or xs (k + 1) 0
    at_end here =
        let ordered : get_or xs (i - 1) 0 ≤ get_or xs i 0 = rising (i - 1) i 0 (omega arith) below in
        let back : k ≡ i - 1 = omega arith in
        let less : get_or xs (i - 1) 0 < get_or xs i 0 = apart (get_or xs (i - 1) 0) (get_or xs i 0) ordered (λ e. other (sym first ∙ (e ∙ second))) in
        rw (here, back) less
      where
        apart : (m n : ℕ) → m ≤ n → m ≢ n → m < n
        apart m n le other = omega (arith, le, other)

pub apart_all : (xs : List ℕ) (i : ℕ) → ¬ (i < length xs) → Rises xs i → AllPairs (λ p q. p ≢ q) xs
apart_all xs i end rises j k d less below e =
    let increasing = AllPairs-from_increasing xs (λ m near. rises m (omega (arith, end, near))) in
    let h = increasing j k d less below in
    omega (arith, h, e)

pub repeat_is : (xs : List ℕ) (i x y : ℕ) → 1 ≤ i → i < length xs → x ≡ get_or xs (i - 1) x → y ≡ get_or xs i y → x ≡ y → AllPairs (λ p q. p ≢ q) xs → ⊥
repeat_is xs i x y some below is also same all =
    all (i - 1) i 0 (omega arith) below
    (get_or_default xs (i - 1) 0 x (omega arith) ∙ (sym is ∙ (same ∙ (also ∙ get_or_default xs i y 0 below))))

-- the order of a list plays no part in whether it has repeats
pub apart_moved : (xs ys : List ℕ) → IsPermutation xs ys → AllPairs (λ p q. p ≢ q) xs → AllPairs (λ p q. p ≢ q) ys
apart_moved xs ys moved apart =
    AllPairs-from_IsDistinct Decides-eqb ys
    (IsDistinct-IsPermutation nat_eq flips xs ys moved (IsDistinct-from_AllPairs Decides-eqb xs apart))
  where
    flips : (x y : ℕ) → nat_eq x y ≡ nat_eq y x
    flips x y = grind (arith, nat_tests)

-- sorted lists with the same items are equal
abbrev HaveSameSums : List ℕ → List ℕ → Type 0
HaveSameSums xs ys = (f : ℕ → ℕ) → sum_by f xs ≡ sum_by f ys

abbrev as_number : Bool → ℕ
as_number true = 1
as_number false = 0

abbrev one_at : ℕ → ℕ → ℕ
one_at x y = as_number (nat_eq x y)

at_itself : (x : ℕ) → one_at x x ≡ 1
at_itself x = ap as_number (eq-eqb x x refl)

is_at : (x y : ℕ) → 0 < one_at x y → x ≡ y
is_at x y h = go (nat_eq x y) refl h
  where
    go : (b : Bool) → nat_eq x y ≡ b → 0 < as_number b → x ≡ y
    go true e h = eqb-true x y e
    go false e h = absurd (omega (arith, h))

-- some item of a sum is not 0
positive : (f : ℕ → ℕ) (xs : List ℕ) → 0 < sum_by f xs → (k : ℕ) × (k < length xs) × (0 < f (get_or xs k 0))
positive f [] h = absurd (omega (arith, h))
positive f (x ∷ xs) h =
    elim (cases_lt 0 (f x)) [
      | inl here ↦ (0, omega arith, here)
      | inr none ↦ later (let e = sum_by-cons f x xs in positive f xs (omega (arith, e, none, h)))
    ]
  where
    later : ((k : ℕ) × (k < length xs) × (0 < f (get_or xs k 0))) → (k : ℕ) × (k < length (x ∷ xs)) × (0 < f (get_or (x ∷ xs) k 0))
    later (k, below, p) = (suc k, omega (arith, below), p)

tail_rises : (x : ℕ) (xs : List ℕ) → IsNonDecreasing (x ∷ xs) → IsNonDecreasing xs
tail_rises x xs rising i j d le below = rising (suc i) (suc j) d (omega (arith, le)) (omega (arith, below))

head_least : (x : ℕ) (xs : List ℕ) (y : ℕ) → IsNonDecreasing (x ∷ xs) → 0 < sum_by (one_at y) (x ∷ xs) → x ≤ y
head_least x xs y rising some = go (positive (one_at y) (x ∷ xs) some)
  where
    go : ((k : ℕ) × (k < length (x ∷ xs)) × (0 < one_at y (get_or (x ∷ xs) k 0))) → x ≤ y
    go (k, below, p) = rw (is_at y (get_or (x ∷ xs) k 0) p) (rising 0 k 0 (omega arith) below)

in_sum : (x : ℕ) (xs : List ℕ) → 0 < sum_by (one_at x) (x ∷ xs)
in_sum x xs = let e = sum_by-cons (one_at x) x xs in let h = at_itself x in omega (arith, e, h)

none_left : (y : ℕ) (ys : List ℕ) → HaveSameSums [] (y ∷ ys) → ⊥
none_left y ys sums = let e = sums (λ _. 1) in let h = sum_by-cons (λ _. 1) y ys in omega (arith, e, h)

same_when_sorted : (xs ys : List ℕ) → IsNonDecreasing xs → IsNonDecreasing ys → HaveSameSums xs ys → xs ≡ ys
same_when_sorted [] [] rising also sums = refl
same_when_sorted [] (y ∷ ys) rising also sums = absurd (none_left y ys sums)
same_when_sorted (x ∷ xs) [] rising also sums = absurd (none_left x xs (λ f. sym (sums f)))
same_when_sorted (x ∷ xs) (y ∷ ys) rising also sums =
    ap (λ z. z ∷ xs) head ∙ ap (λ zs. y ∷ zs) (same_when_sorted xs ys (tail_rises x xs rising) (tail_rises y ys also) tails)
  where
    head : x ≡ y
    head =
        let one = head_least x xs y rising (subst (λ n. 0 < n) (sym (sums (one_at y))) (in_sum y ys)) in
        let other = head_least y ys x also (subst (λ n. 0 < n) (sums (one_at x)) (in_sum x xs)) in
        omega (arith, one, other)

    tails : HaveSameSums xs ys
    tails f =
        let e = sums f in
        let one = sum_by-cons f x xs in
        let other = sum_by-cons f y ys in
        let same = ap f head in
        omega (arith, e, one, other, same)

-- clauses with the same sorted form, and only they, are one in another order
pub reordered_is : (xs ys old new : List ℕ) (b : Bool) → IsInOrder xs old → IsInOrder ys new → Decides b (old ≡ new) → IsTrue b ↔ IsPermutation xs ys
reordered_is xs ys old new b one other test = (
  λ e. IsPermutation-trans xs old ys one.moved (rw (test.0 e) (IsPermutation-sym ys new other.moved)),
  λ moved. test.1 (
      same_when_sorted old new one.rising other.rising
      (λ f. sum_by-IsPermutation f xs old one.moved ∙ (sym (sum_by-IsPermutation f xs ys moved) ∙ sym (sum_by-IsPermutation f ys new other.moved)))
      ),
)

-- each literal of a clause, one after the other
pub each_none : (sorted clause : List ℕ) (i x : ℕ) (b : Bool) → i < length clause → x ≡ get_or clause i x → IsTrue b ↔ Contains sorted x → b ≡ false → IsTrue false ↔ All (Contains sorted) clause
each_none sorted clause i x b below is test fails = (
  λ e. absurd cc,
  λ all. absurd (let holds = test.1 (subst (Contains sorted) (sym is) (all i x below)) in cc),
)

pub each_more : (sorted clause : List ℕ) (i x : ℕ) (b : Bool) → i < length clause → x ≡ get_or clause i x → IsTrue b ↔ Contains sorted x → b ≡ true → All (Contains sorted) (take i clause) → All (Contains sorted) (take (i + 1) clause)
each_more sorted clause i x b below is test holds so_far =
    rw (take_more clause i x below) (All-push (Contains sorted) (take i clause) (get_or clause i x) so_far (subst (Contains sorted) is (test.0 holds)))

pub each_all : (sorted clause : List ℕ) (i : ℕ) → length clause ≤ i → All (Contains sorted) (take i clause) → IsTrue true ↔ All (Contains sorted) clause
each_all sorted clause i end all = (λ e. subst (All (Contains sorted)) (take_all i clause end) all, λ h. refl)

-- what a sorted clause has, the clause has
pub each_moved : (clause sorted other : List ℕ) (b : Bool) → IsInOrder clause sorted → IsTrue b ↔ All (Contains sorted) other → IsTrue b ↔ All (Contains clause) other
each_moved clause sorted other b order test = (
  λ e. All-weaker (Contains sorted) (Contains clause) (λ x h. Contains-permutation sorted clause x (IsPermutation-sym clause sorted order.moved) h) other (test.0 e),
  λ all. test.1 (All-weaker (Contains clause) (Contains sorted) (λ x h. Contains-permutation clause sorted x order.moved h) other all),
)

module _ (premise clause : List ℕ) where
  pub repeats_are_no_contraction : (new : List ℕ) (b : Bool) → IsInOrder clause new → IsTrue b ↔ AllPairs (λ p q. p ≢ q) new → b ≡ false → IsTrue false ↔ HasAllOnce premise clause
  repeats_are_no_contraction new b order test fails = (λ e. absurd cc, λ h. absurd (let holds = test.1 (apart_moved clause new order.moved h.once) in cc))

  pub lacks_are_no_contraction : (new : List ℕ) (b : Bool) → IsInOrder clause new → IsTrue b ↔ All (Contains new) premise → b ≡ false → IsTrue false ↔ HasAllOnce premise clause
  lacks_are_no_contraction new b order test fails = (λ e. absurd cc, λ h. absurd (let holds = (each_moved clause new premise b order test).1 h.kept in cc))

  pub contraction_is : (old new : List ℕ) (a b d : Bool) → IsInOrder premise old → IsInOrder clause new → IsTrue a ↔ AllPairs (λ p q. p ≢ q) new → a ≡ true → IsTrue b ↔ All (Contains new) premise → b ≡ true → IsTrue d ↔ All (Contains old) clause → IsTrue d ↔ HasAllOnce premise clause
  contraction_is old new a b d old_order new_order apart one each two back = (
    λ e. record {
      kept = (each_moved clause new premise b new_order each).0 two;
      none_new = (each_moved premise old clause d old_order back).0 e;
      once = apart_moved new clause (IsPermutation-sym clause new new_order.moved) (apart.0 one);
    },
    λ h. (each_moved premise old clause d old_order back).1 h.none_new,
  )
