-- Cited by crates above. Laws of lists that std lacks: their items by place, what they contain, and arguments as a list.
use Rattle.std.proofs.Common.{◌≡◌, ◌⊎◌, ◌↔◌, inl, inr, ℕ, zero, suc, nat_eq, Bool, true, false, ◌||◌, List, [], ◌∷◌, ◌++◌, length, take, slice_get, Some, Contains, refl, sym, ap, subst, arith, drop, ◌<◌}
use Rattle.std.specs.List.{list_any, AllByRecursion}
use Rattle.std.proofs.lemmas.Bool.{eqb-true, eq-eqb}
use Rattle.term_model.specs.Terms.{Term, Terms, no_terms, term, terms_of, list_of}

-- items by their places
pub slice_get-left : {X : Type 0} (xs ys : List X) (k : ℕ) (x : X) → slice_get xs k ≡ Some x → slice_get (xs ++ ys) k ≡ Some x
slice_get-left [] ys k x e = cc
slice_get-left (y ∷ xs) ys zero x e = e
slice_get-left (y ∷ xs) ys (suc k) x e = slice_get-left xs ys k x e

pub slice_get-last : {X : Type 0} (xs : List X) (x : X) → slice_get (xs ++ x ∷ []) (length xs) ≡ Some x
slice_get-last [] x = refl
slice_get-last (y ∷ xs) x = slice_get-last xs x

-- what a list contains
pub contains_none : {X : Type 0} (x : X) → Contains [] x → ⊥
contains_none x (k, h, e) = omega (arith, h)

pub contains_cases : {X : Type 0} (x y : X) (xs : List X) → Contains (x ∷ xs) y → (x ≡ y) ⊎ Contains xs y
contains_cases x y xs (zero, h, e) = inl e
contains_cases x y xs (suc k, h, e) = inr (k, omega (arith, h), e)

pub contains_head : {X : Type 0} (x : X) (xs : List X) → Contains (x ∷ xs) x
contains_head x xs = (0, omega arith, refl)

pub contains_later : {X : Type 0} (x y : X) (xs : List X) → Contains xs y → Contains (x ∷ xs) y
contains_later x y xs (k, h, e) = (suc k, omega (arith, h), e)

-- a number that some item is
pub any_of : (k : ℕ) (ks : List ℕ) → list_any (nat_eq k) ks ≡ true → Contains ks k
any_of k [] e = absurd (cc)
any_of k (x ∷ ks) e = go (nat_eq k x) refl e (any_of k ks)
  where
    go : (b : Bool) → nat_eq k x ≡ b → (b || list_any (nat_eq k) ks) ≡ true → (list_any (nat_eq k) ks ≡ true → Contains ks k) → Contains (x ∷ ks) k
    go true h e rest = subst (λ y. Contains (y ∷ ks) k) (eqb-true k x h) (contains_head k ks)
    go false h e rest = contains_later x k ks (rest e)

of_any : (k : ℕ) (ks : List ℕ) → Contains ks k → list_any (nat_eq k) ks ≡ true
of_any k [] h = absurd (contains_none k h)
of_any k (x ∷ ks) h =
    elim (contains_cases x k ks h) [
      | inl e ↦ rw (eq-eqb k x (sym e)) refl
      | inr later ↦ (let rest = of_any k ks later in rw rest (or_true (nat_eq k x)))
    ]
  where
    or_true : (b : Bool) → (b || true) ≡ true
    or_true true = refl
    or_true false = refl

pub has_number : (ks : List ℕ) (k : ℕ) → (list_any (nat_eq k) ks ≡ true) ↔ Contains ks k
has_number ks k = (any_of k ks, of_any k ks)

-- what all items of two lists have, all of the joined list have
pub all_joined : {X : Type 0} (P : X → Type 0) (xs ys : List X) → AllByRecursion P xs → AllByRecursion P ys → AllByRecursion P (xs ++ ys)
all_joined P [] ys h k = k
all_joined P (x ∷ xs) ys h k = (h.0, all_joined P xs ys h.1 k)

-- arguments as a list, and back
pub list_of-terms_of : (ts : List Term) → list_of (terms_of ts) ≡ ts
list_of-terms_of [] = refl
list_of-terms_of (t ∷ ts) = ap (λ us. t ∷ us) (list_of-terms_of ts)

pub terms_of-list_of : (ts : Terms) → terms_of (list_of ts) ≡ ts
terms_of-list_of no_terms = refl
terms_of-list_of (term t ts) = ap (term t) (terms_of-list_of ts)

-- the items before a place, and an item at it
pub get_taken : {X : Type 0} (n : ℕ) (xs : List X) (k : ℕ) (x : X) → k < n → slice_get xs k ≡ Some x → slice_get (take n xs) k ≡ Some x
get_taken zero xs k x below e = absurd (omega (arith, below))
get_taken (suc n) [] k x below e = e
get_taken (suc n) (y ∷ xs) zero x below e = e
get_taken (suc n) (y ∷ xs) (suc k) x below e = get_taken n xs k x (omega (arith, below)) e

pub nth_there : {X : Type 0} (xs : List X) (k : ℕ) → k < length xs → (x : X) × (slice_get xs k ≡ Some x)
nth_there [] k h = absurd (omega arith)
nth_there (x ∷ xs) zero h = (x, refl)
nth_there (x ∷ xs) (suc k) h = nth_there xs k (omega arith)

pub drop-whole : {X : Type 0} (xs : List X) → drop (length xs) xs ≡ []
drop-whole [] = refl
drop-whole (x ∷ xs) = drop-whole xs

-- what all items have, the last one has, and one more item may
pub all_last : {X : Type 0} (P : X → Type 0) (xs : List X) (x : X) → AllByRecursion P (xs ++ x ∷ []) → P x
all_last P [] x h = h.0
all_last P (y ∷ xs) x h = all_last P xs x h.1

pub all_at_end : {X : Type 0} (P : X → Type 0) (xs : List X) (x : X) → AllByRecursion P xs → P x → AllByRecursion P (xs ++ x ∷ [])
all_at_end P [] x h p = (p, tt)
all_at_end P (y ∷ xs) x h p = (h.0, all_at_end P xs x h.1 p)

pub same_one : {X : Type 0} (x y : X) → x ∷ [] ≡ y ∷ [] → x ≡ y
same_one x y e = cc
