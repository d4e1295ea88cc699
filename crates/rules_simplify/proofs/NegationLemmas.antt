-- Terms behind negations, and whether there is an odd number of them.
use Rattle.std.proofs.Common.{◌≡◌, ◌↔◌, ◌⊎◌, inl, inr, ◌+◌, ◌%◌, ℕ, zero, suc, Bool, true, false, IsTrue, refl, sym, ap, ◌∙◌, arith}
use Rattle.term_model.specs.declared.symbols.Op.{Op}
use Rattle.term_model.specs.Terms.{Term, numeral, variable, operation, call, let_in, term, no_terms, not_of}
use Rattle.term_pool.specs.Nots.{negated as nots_of, Strips}
use Rattle.rule_model.specs.Simplify.{negated}

-- both words for it
pub negated_is : (n : ℕ) (t : Term) → nots_of n t ≡ negated n t
negated_is zero t = refl
negated_is (suc n) t = ap not_of (negated_is n t)

pub nots_more : (m n : ℕ) (t : Term) → nots_of m (nots_of n t) ≡ nots_of (m + n) t
nots_more zero n t = let e : ◌≡◌ {A = ℕ} (zero + n) n = omega arith in rw e refl
nots_more (suc m) n t = let e : ◌≡◌ {A = ℕ} (suc m + n) (suc (m + n)) = omega arith in rw e (ap not_of (nots_more m n t))

-- the term is no negation
abbrev pub IsBare : Term → Type 0
IsBare u = (w : Term) → u ≡ not_of w → ⊥

-- a term without its leading negations
pub bare_of : (t : Term) → (u : Term) × (n : ℕ) × (t ≡ nots_of n u) × IsBare u
bare_of (operation Op.Not (term a no_terms)) = let inner = bare_of a in (inner.0, suc inner.1, ap not_of inner.2, inner.3)
bare_of (operation Op.Not no_terms) = (operation Op.Not no_terms, 0, refl, λ w e. absurd cc)
bare_of (operation Op.Not (term a (term b ts))) = (operation Op.Not (term a (term b ts)), 0, refl, λ w e. absurd cc)
bare_of (operation op ts) = (operation op ts, 0, refl, λ w e. absurd cc)
bare_of (numeral z) = (numeral z, 0, refl, λ w e. absurd cc)
bare_of (variable x) = (variable x, 0, refl, λ w e. absurd cc)
bare_of (call f ts) = (call f ts, 0, refl, λ w e. absurd cc)
bare_of (let_in bs u) = (let_in bs u, 0, refl, λ w e. absurd cc)

-- it is one term, behind one number of negations
pub one_bare : (m n : ℕ) (u w : Term) → IsBare u → IsBare w → nots_of m u ≡ nots_of n w → (m ≡ n) × (u ≡ w)
one_bare zero zero u w h k e = (refl, e)
one_bare zero (suc n) u w h k e = absurd (h (nots_of n w) e)
one_bare (suc m) zero u w h k e = absurd (k (nots_of m u) (sym e))
one_bare (suc m) (suc n) u w h k e =
    let inside : nots_of m u ≡ nots_of n w = cc in
    let same = one_bare m n u w h k inside in
    (ap suc same.0, same.1)

same_truth : (x y : Bool) → (IsTrue x → IsTrue y) → (IsTrue y → IsTrue x) → x ≡ y
same_truth true y f g = sym (f refl)
same_truth false true f g = g refl
same_truth false false f g = refl

pub one_strips : (t u w : Term) (x y : Bool) → Strips t u x → Strips t w y → (u ≡ w) × (x ≡ y)
one_strips t u w x y h k =
    let same = one_bare h.nots k.nots u w h.bare k.bare (sym h.whole ∙ k.whole) in (
      same.1,
      same_truth x y (λ e. k.parity.1 (sym (ap (λ (n : ℕ). n % 2) same.0) ∙ h.parity.0 e)) (λ e. h.parity.1 (ap (λ (n : ℕ). n % 2) same.0 ∙ k.parity.0 e)),
    )

-- even and odd numbers
pub half : (n : ℕ) → ((m : ℕ) × (n ≡ m + m)) ⊎ ((m : ℕ) × (n ≡ suc (m + m)))
half zero = inl (0, refl)
half (suc n) = elim (half n) [ inl h ↦ inr (h.0, ap suc h.1) | inr h ↦ inl (suc h.0, (let e = h.1 in omega (arith, e))) ]

pub parity_even : (n m : ℕ) → n ≡ m + m → IsTrue false ↔ (n % 2 ≡ 1)
parity_even n m e = (λ f. absurd cc, λ f. absurd (omega (arith, e, f)))

pub parity_odd : (n m : ℕ) → n ≡ suc (m + m) → IsTrue true ↔ (n % 2 ≡ 1)
parity_odd n m e = (λ f. omega (arith, e), λ f. refl)

pub even_count : (n : ℕ) → IsTrue false ↔ (n % 2 ≡ 1) → (m : ℕ) × (n ≡ m + m)
even_count n parity =
    elim (half n) [
      | inl h ↦ h
      | inr h ↦ absurd (let wrong = parity.1 ((parity_odd n h.0 h.1).0 refl) in cc)
    ]

pub odd_count : (n : ℕ) → IsTrue true ↔ (n % 2 ≡ 1) → (m : ℕ) × (n ≡ suc (m + m))
odd_count n parity =
    elim (half n) [
      | inl h ↦ absurd (let wrong = (parity_even n h.0 h.1).1 (parity.0 refl) in cc)
      | inr h ↦ h
    ]
