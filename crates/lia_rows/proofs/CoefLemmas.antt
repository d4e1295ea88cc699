-- Items of a list of coefficients, one after the other, and the coefficients of columns.
use Rattle.std.proofs.Common.{◌≡◌, ◌≢◌, ◌⊎◌, inl, inr, ◌≤◌, ◌<◌, ◌==◌, ℕ, ◌+◌, false, ℤ, pos, unsigned_abs, List, [], ◌∷◌, ◌++◌, length, get_or, map, set, take, drop, slice_get, Some, All, Contains, refl, sym, ap, subst, ◌∙◌, arith}
use Rattle.std.proofs.lemmas.Bool.{cases_eq, eq-eqb}
use Rattle.std.proofs.lemmas.List.{take_more, take_all, take-append-drop, map-append, get_or-set_same, get_or-set_other, length-set}
use Rattle.std.proofs.lemmas.List.Elements.{All-push, Contains-append_left}
use Rattle.linear_forms.specs.declared.nodes.Coefficient.{Coefficient}
use Rattle.linear_forms.specs.Coefficients.{sum_at, AreOfDifferentTerms}
use Rattle.lia_rows.specs.Forms.{term_of, IsNarrow}
use Rattle.lia_rows.proofs.FormLemmas.{IsOther, own_number, no_number}
use Rattle.lia_rows.proofs.Lists.{get_of}

pub all_taken : {A : Type 0} (P : A → Type 0) (xs : List A) (k : ℕ) (x : A) → All P (take k xs) → k < length xs → x ≡ get_or xs k x → P x → All P (take (k + 1) xs)
all_taken P xs k x all below is here =
    subst (All P) (sym (take_more xs k x below ∙ ap (λ z. take k xs ++ z ∷ []) (sym is))) (All-push P (take k xs) x all here)

-- ---- the number of a term
pub other_term : (p q : ℕ) → false ≡ (p == q) → p ≢ q
other_term p q e f = let same = eq-eqb p q f in absurd cc

pub number_here : (cs : List Coefficient) (k : ℕ) (x : Coefficient) (r : ℕ) → AreOfDifferentTerms cs → k < length cs → x ≡ get_or cs k x → x.term ≡ r → sum_at cs r ≡ x.number
number_here cs k x r apart below is e =
    ap (λ q. sum_at cs q) (sym e ∙ ap term_of is) ∙ own_number cs k x apart below ∙ sym (ap (λ (c : Coefficient). c.number) is)

pub narrow_here : (cs : List Coefficient) (k : ℕ) (x : Coefficient) → All IsNarrow cs → k < length cs → x ≡ get_or cs k x → unsigned_abs x.number ≤ 64
narrow_here cs k x all below is = subst IsNarrow (sym is) (all k x below)

pub number_nowhere : (cs : List Coefficient) (k r : ℕ) → length cs ≤ k → All (IsOther r) (take k cs) → sum_at cs r ≡ pos 0
number_nowhere cs k r past all = no_number cs r (subst (All (IsOther r)) (take_all k cs past) all)

-- ---- the terms of items
pub terms_more : (cs : List Coefficient) (k : ℕ) (x : Coefficient) → k < length cs → x ≡ get_or cs k x → map term_of (take (k + 1) cs) ≡ map term_of (take k cs) ++ x.term ∷ []
terms_more cs k x below is =
    ap (map term_of) (take_more cs k x below ∙ ap (λ z. take k cs ++ z ∷ []) (sym is)) ∙ map-append term_of (take k cs) (x ∷ [])

pub terms_within : (cs : List Coefficient) (k : ℕ) (x : Coefficient) → k < length cs → x ≡ get_or cs k x → (q : ℕ) → Contains (map term_of (take k cs) ++ x.term ∷ []) q
    → Contains (map term_of cs) q
terms_within cs k x below is q there =
    subst (λ zs. Contains zs q) (sym (map-append term_of (take (k + 1) cs) (drop (k + 1) cs)) ∙ ap (map term_of) (take-append-drop (k + 1) cs))
    (Contains-append_left (map term_of (take (k + 1) cs)) (map term_of (drop (k + 1) cs)) q
    (subst (λ zs. Contains zs q) (sym (terms_more cs k x below is)) there))

-- ---- the coefficients of columns
module _ (columns : List ℕ) (cs : List Coefficient) (coefs : List ℤ) (column reference : ℕ) (number : ℤ) (size : length coefs ≡ 4) (small : column < 4)
    (is : reference ≡ get_or columns column reference) (number_is : number ≡ sum_at cs reference) where
  pub right_more : ((k r : ℕ) → k < column → slice_get columns k ≡ Some r → get_or coefs k (pos 0) ≡ sum_at cs r)
      → (k r : ℕ) → k < column + 1 → slice_get columns k ≡ Some r → get_or (set coefs column number) k (pos 0) ≡ sum_at cs r
  right_more right k r below at = go (cases_eq k column)
    where
      go : (k ≡ column) ⊎ (k ≢ column) → get_or (set coefs column number) k (pos 0) ≡ sum_at cs r
      go (inl e) =
          let here : r ≡ reference = sym (get_of columns k r reference at) ∙ ap (λ j. get_or columns j reference) e ∙ sym is in
          ap (λ j. get_or (set coefs column number) j (pos 0)) e ∙ get_or-set_same coefs column number (pos 0) (omega (arith, size, small)) ∙ number_is ∙ ap (λ q. sum_at cs q) (sym here)
      go (inr other) = get_or-set_other coefs column k number (pos 0) other ∙ right k r (omega (arith, below, other)) at

  pub beyond_more : ((k : ℕ) → column ≤ k → k < 4 → get_or coefs k (pos 0) ≡ pos 0)
      → (k : ℕ) → column + 1 ≤ k → k < 4 → get_or (set coefs column number) k (pos 0) ≡ pos 0
  beyond_more beyond k past below =
      get_or-set_other coefs column k number (pos 0) (λ e. omega (arith, past, e)) ∙ beyond k (omega (arith, past)) below

  pub narrow_more : unsigned_abs number ≤ 64 → ((k : ℕ) → k < 4 → unsigned_abs (get_or coefs k (pos 0)) ≤ 64)
      → (k : ℕ) → k < 4 → unsigned_abs (get_or (set coefs column number) k (pos 0)) ≤ 64
  narrow_more narrow all k below = go (cases_eq k column)
    where
      go : (k ≡ column) ⊎ (k ≢ column) → unsigned_abs (get_or (set coefs column number) k (pos 0)) ≤ 64
      go (inl e) =
          subst (λ z. unsigned_abs z ≤ 64)
          (sym (ap (λ j. get_or (set coefs column number) j (pos 0)) e ∙ get_or-set_same coefs column number (pos 0) (omega (arith, size, small)))) narrow
      go (inr other) = subst (λ z. unsigned_abs z ≤ 64) (sym (get_or-set_other coefs column k number (pos 0) other)) (all k below)

  pub size_more : length (set coefs column number) ≡ 4
  size_more = length-set coefs column number ∙ size
