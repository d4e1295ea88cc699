-- Lists that std has no laws of: items at places, lists in step, and lists whose items differ.
use Rattle.std.proofs.Common.{◌≡◌, ◌≢◌, ◌⊎◌, inl, inr, ◌≤◌, ◌<◌, ℕ, zero, suc, ◌+◌, nat_eq, Bool, true, false, List, [], ◌∷◌, ◌++◌, length, take, get_or, slice_get, Some, None, All, Any, Contains, refl, sym, ap, subst, ◌∙◌, arith}
use Rattle.std.specs.List.{AllPairs, AllZip}
use Rattle.std.proofs.lemmas.Bool.{eqb-true, eq-eqb}
use Rattle.std.proofs.lemmas.List.Elements.{All-head, All-tail}
use Rattle.term_model.proofs.Lists.{contains_none, contains_cases, contains_head, contains_later}
use Rattle.term_model.proofs.Basics.{any_here, any_later, any_cases}
use Rattle.lia_rows.specs.Columns.{AreApart}

-- ---- items at places
pub at_place : (xs : List ℕ) (k r : ℕ) → k < length xs → get_or xs k r ≡ r → slice_get xs k ≡ Some r
at_place [] k r below e = absurd (omega (arith, below))
at_place (x ∷ xs) zero r below e = ap Some e
at_place (x ∷ xs) (suc k) r below e = at_place xs k r (omega (arith, below)) e

pub get_of : (xs : List ℕ) (k r d : ℕ) → slice_get xs k ≡ Some r → get_or xs k d ≡ r
get_of [] k r d e = absurd cc
get_of (x ∷ xs) zero r d e = cc
get_of (x ∷ xs) (suc k) r d e = get_of xs k r d e

pub within : (xs : List ℕ) (k r : ℕ) → slice_get xs k ≡ Some r → k < length xs
within [] k r e = absurd cc
within (x ∷ xs) zero r e = omega arith
within (x ∷ xs) (suc k) r e = let h = within xs k r e in omega (arith, h)

pub in_front : (xs ys : List ℕ) (k r : ℕ) → slice_get (xs ++ ys) k ≡ Some r → k < length xs → slice_get xs k ≡ Some r
in_front [] ys k r e below = absurd (omega (arith, below))
in_front (x ∷ xs) ys zero r e below = e
in_front (x ∷ xs) ys (suc k) r e below = in_front xs ys k r e (omega (arith, below))

-- the place of a number, if it has one
pub place : (xs : List ℕ) (r : ℕ) → ((k : ℕ) × (slice_get xs k ≡ Some r)) ⊎ (¬ Contains xs r)
place [] r = inr (contains_none r)
place (x ∷ xs) r = go (nat_eq x r) refl (place xs r)
  where
    go : (b : Bool) → nat_eq x r ≡ b → ((k : ℕ) × (slice_get xs k ≡ Some r)) ⊎ (¬ Contains xs r)
        → ((k : ℕ) × (slice_get (x ∷ xs) k ≡ Some r)) ⊎ (¬ Contains (x ∷ xs) r)
    go true e rest = inl (0, ap Some (eqb-true x r e))
    go false e (inl (k, f)) = inl (suc k, f)
    go false e (inr none) =
        inr (λ h. elim (contains_cases x r xs h) [ inl f ↦ (let t = eq-eqb x r f in absurd cc) | inr later ↦ none later ])

-- ---- lists whose items differ
pub apart_places : (xs : List ℕ) (i j r : ℕ) → AreApart xs → slice_get xs i ≡ Some r → slice_get xs j ≡ Some r → i < j → ⊥
apart_places xs i j r apart e f less =
    apart i j r less (within xs j r f) (get_of xs i r r e ∙ sym (get_of xs j r r f))

abbrev without : {B : Type 0} → List B → ℕ → List B
without [] k = []
without (y ∷ ys) zero = ys
without (y ∷ ys) (suc k) = y ∷ without ys k

length_without : {B : Type 0} (ys : List B) (k : ℕ) → k < length ys → length ys ≡ suc (length (without ys k))
length_without [] k below = absurd (omega (arith, below))
length_without (y ∷ ys) zero below = refl
length_without (y ∷ ys) (suc k) below = ap suc (length_without ys k (omega (arith, below)))

still_there : {B : Type 0} (ys : List B) (j k : ℕ) (t u : B) → j < length ys → k < length ys → get_or ys k t ≡ t → get_or ys j u ≡ u → t ≢ u
    → Contains (without ys k) u
still_there [] j k t u at_j at_k e f other = absurd (omega (arith, at_j))
still_there (y ∷ ys) zero zero t u at_j at_k e f other = absurd (other (sym e ∙ f))
still_there (y ∷ ys) (suc j) zero t u at_j at_k e f other = (j, omega (arith, at_j), f)
still_there (y ∷ ys) zero (suc k) t u at_j at_k e f other = (0, omega arith, f)
still_there (y ∷ ys) (suc j) (suc k) t u at_j at_k e f other =
    contains_later y u (without ys k) (still_there ys j k t u (omega (arith, at_j)) (omega (arith, at_k)) e f other)

-- as many different items as stand for items of a list are no more than these
pub no_more : {A B : Type 0} (R : A → B → Type 0) → ((x y : A) (t : B) → R x t → R y t → x ≡ y) → (xs : List A) (ys : List B)
    → AllPairs (λ (x y : A). x ≢ y) xs → All (λ (x : A). (t : B) × R x t × Contains ys t) xs → length xs ≤ length ys
no_more R one [] ys apart all = omega arith
no_more {A} {B} R one (x ∷ xs) ys apart all =
    let rest = no_more R one xs (without ys k) (λ i j d less below. apart (suc i) (suc j) d (omega (arith, less)) (omega (arith, below))) others in
    omega (arith, rest, length_without ys k here.2.1)
  where
    here : (t : B) × R x t × Contains ys t
    here = All-head (λ (y : A). (t : B) × R y t × Contains ys t) x xs all

    k : ℕ
    k = here.2.0

    others : All (λ (y : A). (t : B) × R y t × Contains (without ys k) t) xs
    others j d below =
        let there = all (suc j) d (omega (arith, below)) in
        let differs : x ≢ get_or xs j d = apart 0 (suc j) d (omega arith) (omega (arith, below)) in (
          there.0,
          there.1,
          still_there ys there.2.0 k here.0 there.0 there.2.1 here.2.1 here.2.2 there.2.2
              (λ e. differs (one x (get_or xs j d) there.0 (subst (R x) e here.1) there.1)),
        )

-- ---- lists in step
pub record IsSplit {A B : Type 0} (R : A → B → Type 0) (xs : List A) (i : ℕ) (x : A) (ys : List B) : Type 0 where
  pub front : List B
  pub here : B
  pub rest : List B
  pub whole : ys ≡ front ++ here ∷ rest
  pub zip : AllZip R (take i xs) front
  pub is : R x here

pub split : {A B : Type 0} (R : A → B → Type 0) (xs : List A) (i : ℕ) (x : A) (ys : List B) → AllZip R xs ys → i < length xs → x ≡ get_or xs i x → IsSplit R xs i x ys
split R [] i x ys zip below e = absurd (omega (arith, below))
split R (y ∷ xs) i x [] zip below e = absurd zip
split R (y ∷ xs) zero x (z ∷ ys) zip below e =
    record { front = []; here = z; rest = ys; whole = refl; zip = tt; is = subst (λ w. R w z) (sym e) zip.0 }
split R (y ∷ xs) (suc i) x (z ∷ ys) zip below e =
    let more = split R xs i x ys zip.1 (omega (arith, below)) e in
    record { front = z ∷ more.front; here = more.here; rest = more.rest; whole = ap (λ zs. z ∷ zs) more.whole; zip = (zip.0, more.zip); is = more.is }

pub record IsEnd {A B : Type 0} (R : A → B → Type 0) (xs : List A) (x : A) (ys : List B) : Type 0 where
  pub front : List B
  pub last : B
  pub whole : ys ≡ front ++ last ∷ []
  pub zip : AllZip R xs front
  pub is : R x last

pub end_of : {A B : Type 0} (R : A → B → Type 0) (xs : List A) (x : A) (ys : List B) → AllZip R (xs ++ x ∷ []) ys → IsEnd R xs x ys
end_of R [] x [] zip = absurd zip
end_of R [] x (y ∷ []) zip = record { front = []; last = y; whole = refl; zip = tt; is = zip.0 }
end_of R [] x (y ∷ z ∷ ys) zip = absurd zip.1
end_of R (w ∷ xs) x [] zip = absurd zip
end_of R (w ∷ xs) x (y ∷ ys) zip =
    let more = end_of R xs x ys zip.1 in
    record { front = y ∷ more.front; last = more.last; whole = ap (λ zs. y ∷ zs) more.whole; zip = (zip.0, more.zip); is = more.is }

pub zip_more : {A B : Type 0} (R : A → B → Type 0) (xs : List A) (ys : List B) (x : A) (y : B) → AllZip R xs ys → R x y → AllZip R (xs ++ x ∷ []) (ys ++ y ∷ [])
zip_more R [] [] x y zip is = (is, tt)
zip_more R (w ∷ xs) (z ∷ ys) x y zip is = (zip.0, zip_more R xs ys x y zip.1 is)
zip_more R [] (z ∷ ys) x y zip is = absurd zip
zip_more R (w ∷ xs) [] x y zip is = absurd zip

pub zip_weaker : {A B : Type 0} (R S : A → B → Type 0) → ((x : A) (y : B) → R x y → S x y) → (xs : List A) (ys : List B) → AllZip R xs ys → AllZip S xs ys
zip_weaker R S weaker [] [] zip = tt
zip_weaker R S weaker (x ∷ xs) (y ∷ ys) zip = (weaker x y zip.0, zip_weaker R S weaker xs ys zip.1)
zip_weaker R S weaker [] (y ∷ ys) zip = absurd zip
zip_weaker R S weaker (x ∷ xs) [] zip = absurd zip

-- ---- some item
pub any_left : {X : Type 0} (P : X → Type 0) (xs ys : List X) → Any P xs → Any P (xs ++ ys)
any_left P [] ys (k, x, below, same, p) = absurd (omega (arith, below))
any_left P (z ∷ xs) ys h =
    elim (any_cases P z xs h) [ inl here ↦ any_here P z (xs ++ ys) here | inr later ↦ any_later P z (xs ++ ys) (any_left P xs ys later) ]
