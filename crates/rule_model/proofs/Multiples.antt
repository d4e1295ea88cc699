-- The condition of la_generic by one common multiple of the denominators and by another.
use Rattle.std.proofs.Common.{◌≡◌, ◌⊎◌, inl, inr, ℕ, zero, suc, ◌*◌, ◌/◌, ◌<◌, ℤ, pos, ◌+ℤ◌, ◌*ℤ◌, ◌≤ℤ◌, ◌<ℤ◌, ◌-ℤ◌, negsuc, List, [], ◌∷◌, All, Option}
use Rattle.std.proofs.Common.{refl, sym, ap, ◌∙◌, subst, arith}
use Rattle.std.specs.Prelude.{unsigned_abs}
use Rattle.std.proofs.Math.IntN.{pos-*ℤ-pos, *ℤ_comm, zero-*ℤ}
use Rattle.std.proofs.Math.Nat.{mul-div_cancel_left, mul_assoc as nat_assoc, mul_comm as nat_comm}
use Rattle.std.proofs.lemmas.Int.{ints}
use Rattle.std.proofs.lemmas.List.Elements.{All-head, All-tail}
use Rattle.term_model.specs.Terms.{Term}
use Rattle.rule_model.specs.Arith.{CoefficientLine, Divides, IsMultipleOfAll, coefficient_in, bound_in, signed_by, factor, scaled}
use Rattle.rule_model.specs.Arith.{IsWhole, IsRoundedUp, IsRounded, IsScaledBound, added_coefficient, IsAddedBound, AreAbsurdBy, IsLinearStep, MeetsLaGeneric}
use Rattle.rule_model.specs.Proofs.{Fraction}
use Rattle.rule_model.proofs.Ring.{mul-add, add-mul, mul_assoc, mul_le}

-- one of two numbers is below the other, or not
split : (z : ℤ) → (pos 0 ≤ℤ z) ⊎ (z <ℤ pos 0)
split (pos n) = inl (omega (arith, ints))
split (negsuc n) = inr (omega (arith, ints))

-- products by a number over 0 are in the order of their factors
module _ (k : ℕ) (some : 0 < k) where
  one_more : pos k *ℤ pos 1 ≡ pos k
  one_more = pos-*ℤ-pos k 1 ∙ ap pos (omega arith)

  less : (a b : ℤ) → a <ℤ b → (a *ℤ pos k) <ℤ (b *ℤ pos k)
  less a b h =
      let step : (a +ℤ pos 1) ≤ℤ b = omega (arith, ints, h) in
      omega (arith, ints, some, mul_le k (a +ℤ pos 1) b step, mul-add (pos k) a (pos 1), one_more, *ℤ_comm (pos k) a, *ℤ_comm (pos k) b)

  at_most : (a b : ℤ) → a ≤ℤ b → (a *ℤ pos k) ≤ℤ (b *ℤ pos k)
  at_most a b h = omega (arith, ints, mul_le k a b h, *ℤ_comm (pos k) a, *ℤ_comm (pos k) b)

  less_back : (a b : ℤ) → (a *ℤ pos k) <ℤ (b *ℤ pos k) → a <ℤ b
  less_back a b h =
      elim (split (a -ℤ b)) [
        | inl over ↦ (let le : b ≤ℤ a = omega (arith, ints, over) in omega (arith, ints, h, at_most b a le))
        | inr under ↦ omega (arith, ints, under)
      ]

  at_most_back : (a b : ℤ) → (a *ℤ pos k) ≤ℤ (b *ℤ pos k) → a ≤ℤ b
  at_most_back a b h =
      elim (split (b -ℤ a)) [
        | inl over ↦ omega (arith, ints, over)
        | inr under ↦ (let lt : b <ℤ a = omega (arith, ints, under) in omega (arith, ints, h, less b a lt))
      ]

  same_back : (a b : ℤ) → a *ℤ pos k ≡ b *ℤ pos k → a ≡ b
  same_back a b e =
      let down : (a *ℤ pos k) ≤ℤ (b *ℤ pos k) = omega (arith, ints, e) in
      let up : (b *ℤ pos k) ≤ℤ (a *ℤ pos k) = omega (arith, ints, e) in
      omega (arith, ints, at_most_back a b down, at_most_back b a up)

-- a product whose factors are taken in another order
turned : (a b c : ℤ) → (a *ℤ b) *ℤ c ≡ (a *ℤ c) *ℤ b
turned a b c = mul_assoc a b c ∙ ap (λ z. a *ℤ z) (*ℤ_comm b c) ∙ sym (mul_assoc a c b)

-- a line multiplied by a common multiple m of the denominators, and by k times this
module _ (m k : ℕ) (some_m : 0 < m) (some_k : 0 < k) where
  quotient : (d : ℕ) → Divides d m → (m * k) / d ≡ (m / d) * k
  quotient d (q, e) =
      let some : 0 < d = over d q e in
      let first : m / d ≡ q = ap (λ x. x / d) e ∙ mul-div_cancel_left q some in
      let second : (m * k) / d ≡ q * k = ap (λ x. x / d) (shape d q e) ∙ mul-div_cancel_left (q * k) some in
      second ∙ ap (λ x. x * k) (sym first)
    where
      over : (d q : ℕ) → m ≡ d * q → 0 < d
      over zero q e = absurd (omega (arith, e, some_m))
      over (suc d) q e = omega arith

      shape : (d q : ℕ) → m ≡ d * q → m * k ≡ d * (q * k)
      shape d q e = ap (λ x. x * k) e ∙ nat_assoc d q k

  module _ (l : CoefficientLine) (divides : Divides (unsigned_abs l.ratio.den) m) where
    factor_grows : factor (m * k) l ≡ factor m l *ℤ pos k
    factor_grows =
        let sign = signed_by l.comparison.relation l.ratio.num in
        let d = unsigned_abs l.ratio.den in
        ap (λ x. sign *ℤ pos x) (quotient d divides)
        ∙ ap (λ z. sign *ℤ z) (sym (pos-*ℤ-pos (m / d) k))
        ∙ sym (mul_assoc sign (pos (m / d)) (pos k))

    product_grows : (z : ℤ) → factor (m * k) l *ℤ z ≡ (factor m l *ℤ z) *ℤ pos k
    product_grows z = ap (λ f. f *ℤ z) factor_grows ∙ turned (factor m l) (pos k) z

    scaled_grows : (u : Term) → scaled (m * k) l u ≡ scaled m l u *ℤ pos k
    scaled_grows u = product_grows (coefficient_in l.comparison u)

  multiple_grows : (q : ℤ) → pos (m * k) *ℤ q ≡ (pos m *ℤ q) *ℤ pos k
  multiple_grows q = ap (λ x. x *ℤ q) (sym (pos-*ℤ-pos m k)) ∙ turned (pos m) (pos k) q

  whole_grows : (z : ℤ) → IsWhole m z → IsWhole (m * k) (z *ℤ pos k)
  whole_grows z (q, e) = (q, ap (λ x. x *ℤ pos k) e ∙ sym (multiple_grows q))

  whole_back : (z : ℤ) → IsWhole (m * k) (z *ℤ pos k) → IsWhole m z
  whole_back z (q, e) = (q, same_back k some_k z (pos m *ℤ q) (e ∙ multiple_grows q))

  near_grows : (z : ℤ) → (z +ℤ pos m) *ℤ pos k ≡ z *ℤ pos k +ℤ pos (m * k)
  near_grows z = add-mul z (pos m) (pos k) ∙ ap (λ x. z *ℤ pos k +ℤ x) (pos-*ℤ-pos m k)

  rounded_grows : (z r : ℤ) → IsRoundedUp m z r → IsRoundedUp (m * k) (z *ℤ pos k) (r *ℤ pos k)
  rounded_grows z r h = record {
    whole = whole_grows r h.whole;
    above = at_most k some_k z r h.above;
    near = subst (λ x. (r *ℤ pos k) <ℤ x) (near_grows z) (less k some_k r (z +ℤ pos m) h.near);
  }

  rounded_back : (z r : ℤ) → IsRoundedUp (m * k) (z *ℤ pos k) (r *ℤ pos k) → IsRoundedUp m z r
  rounded_back z r h = record {
    whole = whole_back r h.whole;
    above = at_most_back k some_k z r h.above;
    near = less_back k some_k r (z +ℤ pos m) (subst (λ x. (r *ℤ pos k) <ℤ x) (sym (near_grows z)) h.near);
  }

  module _ (l : CoefficientLine) (divides : Divides (unsigned_abs l.ratio.den) m) where
    round_grows : IsRounded m l → IsRounded (m * k) l
    round_grows h = record {
      inequality = h.inequality;
      whole = λ u. subst (IsWhole (m * k)) (sym (scaled_grows l divides u)) (whole_grows (scaled m l u) (h.whole u));
    }

    round_back : IsRounded (m * k) l → IsRounded m l
    round_back h = record {
      inequality = h.inequality;
      whole = λ u. whole_back (scaled m l u) (subst (IsWhole (m * k)) (scaled_grows l divides u) (h.whole u));
    }

    abbrev raw : ℤ
    raw = factor m l *ℤ bound_in l.comparison

    raw_grows : factor (m * k) l *ℤ bound_in l.comparison ≡ raw *ℤ pos k
    raw_grows = product_grows l divides (bound_in l.comparison)

    bound_grows : (x : ℤ) → IsScaledBound m l x → IsScaledBound (m * k) l (x *ℤ pos k)
    bound_grows x (inl (round, up)) =
        inl (round_grows round, subst (λ z. IsRoundedUp (m * k) z (x *ℤ pos k)) (sym raw_grows) (rounded_grows raw x up))
    bound_grows x (inr (other, e)) = inr (λ round. other (round_back round), ap (λ z. z *ℤ pos k) e ∙ sym raw_grows)

    bound_back : (x : ℤ) → IsScaledBound (m * k) l x → (y : ℤ) × (x ≡ y *ℤ pos k) × IsScaledBound m l y
    bound_back x (inl (round, up)) =
        let q = up.whole.0 in
        let is : x ≡ (pos m *ℤ q) *ℤ pos k = up.whole.1 ∙ multiple_grows q in
        let moved = subst (IsRoundedUp (m * k) (factor (m * k) l *ℤ bound_in l.comparison)) is up in
        let here = subst (λ z. IsRoundedUp (m * k) z ((pos m *ℤ q) *ℤ pos k)) raw_grows moved in
        (pos m *ℤ q, is, inl (round_back round, rounded_back raw (pos m *ℤ q) here))
    bound_back x (inr (other, e)) = (raw, e ∙ raw_grows, inr (λ round. other (round_grows round), refl))

  abbrev Divide : CoefficientLine → Type 0
  Divide l = Divides (unsigned_abs l.ratio.den) m

  added_grows : (ls : List CoefficientLine) → All Divide ls → (u : Term) → added_coefficient (m * k) ls u ≡ added_coefficient m ls u *ℤ pos k
  added_grows [] all u = sym (zero-*ℤ (pos k))
  added_grows (l ∷ ls) all u =
      ap (λ z. z +ℤ added_coefficient (m * k) ls u) (scaled_grows l (All-head Divide l ls all) u)
      ∙ ap (λ z. scaled m l u *ℤ pos k +ℤ z) (added_grows ls (All-tail Divide l ls all) u)
      ∙ sym (add-mul (scaled m l u) (added_coefficient m ls u) (pos k))

  sum_grows : (ls : List CoefficientLine) → All Divide ls → (z : ℤ) → IsAddedBound m ls z → IsAddedBound (m * k) ls (z *ℤ pos k)
  sum_grows [] all z e = ap (λ x. x *ℤ pos k) e ∙ zero-*ℤ (pos k)
  sum_grows (l ∷ ls) all z (x, y, line, more, e) = (
    x *ℤ pos k,
    y *ℤ pos k,
    bound_grows l (All-head Divide l ls all) x line,
    sum_grows ls (All-tail Divide l ls all) y more,
    ap (λ w. w *ℤ pos k) e ∙ add-mul x y (pos k),
  )

  sum_back : (ls : List CoefficientLine) → All Divide ls → (z : ℤ) → IsAddedBound (m * k) ls z → (w : ℤ) × (z ≡ w *ℤ pos k) × IsAddedBound m ls w
  sum_back [] all z e = (pos 0, e ∙ sym (zero-*ℤ (pos k)), refl)
  sum_back (l ∷ ls) all z (x, y, line, more, e) =
      let first = bound_back l (All-head Divide l ls all) x line in
      let rest = sum_back ls (All-tail Divide l ls all) y more in (
        first.0 +ℤ rest.0,
        e ∙ ap (λ a. a +ℤ y) first.1 ∙ ap (λ b. first.0 *ℤ pos k +ℤ b) rest.1 ∙ sym (add-mul first.0 rest.0 (pos k)),
        (first.0, rest.0, first.2, rest.2, refl),
      )

  absurd_grows : (ls : List CoefficientLine) → All Divide ls → AreAbsurdBy m ls → AreAbsurdBy (m * k) ls
  absurd_grows ls all h = record {
    bound = h.bound *ℤ pos k;
    cancelled = λ u. added_grows ls all u ∙ ap (λ z. z *ℤ pos k) (h.cancelled u) ∙ zero-*ℤ (pos k);
    added = sum_grows ls all h.bound h.added;
    absurd_bound = elim h.absurd_bound [
      | inl over ↦ inl (subst (λ z. z <ℤ (h.bound *ℤ pos k)) (zero-*ℤ (pos k)) (less k some_k (pos 0) h.bound over))
      | inr (equations, other) ↦ inr (equations, λ e. other (same_back k some_k h.bound (pos 0) (e ∙ sym (zero-*ℤ (pos k)))))
    ];
  }

  absurd_back : (ls : List CoefficientLine) → All Divide ls → AreAbsurdBy (m * k) ls → AreAbsurdBy m ls
  absurd_back ls all h =
      let sum = sum_back ls all h.bound h.added in
      record {
        bound = sum.0;
        cancelled = λ u. same_back k some_k (added_coefficient m ls u) (pos 0) (sym (added_grows ls all u) ∙ h.cancelled u ∙ sym (zero-*ℤ (pos k)));
        added = sum.2;
        absurd_bound = elim h.absurd_bound [
          | inl over ↦ inl (less_back k some_k (pos 0) sum.0
              (subst (λ z. z <ℤ (sum.0 *ℤ pos k)) (sym (zero-*ℤ (pos k))) (subst (λ z. pos 0 <ℤ z) sum.1 over)))
          | inr (equations, other) ↦ inr (equations, λ e. other (sum.1 ∙ ap (λ z. z *ℤ pos k) e ∙ zero-*ℤ (pos k)))
        ];
      }

-- by one common multiple and by another: by their product
pub any_multiple : (ls : List CoefficientLine) (m n : ℕ) → IsMultipleOfAll ls m → IsMultipleOfAll ls n → AreAbsurdBy m ls → AreAbsurdBy n ls
any_multiple ls m n one other h =
    absurd_back n m other.0 one.0 ls other.1
    (subst (λ x. AreAbsurdBy x ls) (nat_comm m n) (absurd_grows m n one.0 other.0 ls one.1 h))

module _ (ratios : Option (List Fraction)) (premises : List (List Term)) (clause : List Term) where
  pub asks_by : (met : MeetsLaGeneric ratios premises clause) (n : ℕ) → IsMultipleOfAll met.form.lines n → AreAbsurdBy n met.form.lines
  asks_by met n multiple =
      any_multiple met.form.lines met.form.multiple n met.form.least.multiple multiple met.absurd_by

  pub enough_by : (form : IsLinearStep ratios premises clause) (n : ℕ) → IsMultipleOfAll form.lines n →
      AreAbsurdBy n form.lines → MeetsLaGeneric ratios premises clause
  enough_by form n multiple h =
      record { form = form; absurd_by = any_multiple form.lines n form.multiple multiple form.least.multiple h }
