-- Quotients and remainders of whole numbers.
use Rattle.std.proofs.Common.{◌≡◌, ◌≢◌, ℕ, ℤ, zero, suc, pos, negsuc, neg_ℤ, ◌+◌, ◌-◌, ◌*◌, ◌/◌}
use Rattle.std.proofs.Common.{◌%◌, ◌<◌, ◌≤◌, ◌+ℤ◌, ◌*ℤ◌, ◌⊎◌, inl, inr, refl, sym, ap, ◌∙◌, arith}
use Rattle.std.proofs.lemmas.Int.{ints}
use Rattle.std.proofs.Math.Nat.{div-add-mod, mod-lt, mul-zero, mul-le-mul_left}
use Rattle.term_model.specs.Operators.{quotient, remainder}
use Rattle.term_model.specs.Division.{IsDivision}

-- the product of two that are not positive
both_turned : (b k : ℕ) → negsuc b *ℤ neg_ℤ (pos k) ≡ pos (suc b * k)
both_turned b zero = ap (λ x. neg_ℤ (pos x)) (mul-zero (suc b)) ∙ ap pos (sym (mul-zero (suc b)))
both_turned b (suc k) = refl

rest_of : (a b : ℕ) → a % suc b < suc b
rest_of a b = mod-lt a (omega arith)

-- a number below zero from the multiple that is next below it
from_below : (a x y : ℕ) → x ≡ suc a + y → negsuc a ≡ neg_ℤ (pos x) +ℤ pos y
from_below a x y e = omega (arith, ints)

next_multiple : (a b : ℕ) → suc b * suc (a / suc b) ≡ suc a + (suc b - 1 - a % suc b)
next_multiple a b =
    let whole = div-add-mod a (suc b) in
    let below = rest_of a b in
    omega (arith, whole, below)

pub divided : (m n : ℤ) → n ≢ pos 0 → IsDivision m n (quotient m n) (remainder m n)
divided (pos a) (pos zero) some = absurd (some refl)
divided (negsuc a) (pos zero) some = absurd (some refl)
divided (pos a) (pos (suc b)) some = record {
  whole = ap pos (sym (div-add-mod a (suc b)));
  not_negative = omega (arith, ints);
  below = let h = rest_of a b in omega (arith, ints, h);
}
divided (pos a) (negsuc b) some = record {
  whole = ap pos (sym (div-add-mod a (suc b))) ∙ ap (λ z. z +ℤ pos (a % suc b)) (sym (both_turned b (a / suc b)));
  not_negative = omega (arith, ints);
  below = let h = rest_of a b in omega (arith, ints, h);
}
divided (negsuc a) (pos (suc b)) some = record {
  whole = from_below a (suc b * suc (a / suc b)) (suc b - 1 - a % suc b) (next_multiple a b);
  not_negative = omega (arith, ints);
  below = omega (arith, ints);
}
divided (negsuc a) (negsuc b) some = record {
  whole = from_below a (suc b * suc (a / suc b)) (suc b - 1 - a % suc b) (next_multiple a b);
  not_negative = omega (arith, ints);
  below = omega (arith, ints);
}

-- the same of natural numbers
multiples_apart : (k i j x y : ℕ) → i < j → x < k → k * i + x ≡ k * j + y → ⊥
multiples_apart k i j x y less h e =
    let more : k * suc i ≤ k * j = mul-le-mul_left k less in
    omega (arith, more)

one_multiple : (k i j x y : ℕ) → x < k → y < k → k * i + x ≡ k * j + y → (i ≡ j) × (x ≡ y)
one_multiple k i j x y h g e = go (order i j)
  where
    order : (i j : ℕ) → (i ≡ j) ⊎ ((i < j) ⊎ (j < i))
    order i j = grind arith

    go : (i ≡ j) ⊎ ((i < j) ⊎ (j < i)) → (i ≡ j) × (x ≡ y)
    go (inl same) = let f = ap (λ n. k * n) same in (same, omega (arith, e, f))
    go (inr (inl less)) = absurd (multiples_apart k i j x y less h e)
    go (inr (inr more)) = absurd (multiples_apart k j i y x more g (sym e))

turned : (p r x y : ℕ) → neg_ℤ (pos p) +ℤ pos x ≡ neg_ℤ (pos r) +ℤ pos y → r + x ≡ p + y
turned p r x y e = omega (arith, ints)

half_turned : (p r x y : ℕ) → pos p +ℤ pos x ≡ neg_ℤ (pos r) +ℤ pos y → r + (p + x) ≡ y
half_turned p r x y e = omega (arith, ints)

at_least_one : (k j y : ℕ) → y < k → k * suc j ≤ y → ⊥
at_least_one k j y below e = omega arith

-- the two divisions by a number that is not negative
one_division : (k : ℕ) (q a : ℤ) (x y : ℕ) → x < k → y < k → pos k *ℤ q +ℤ pos x ≡ pos k *ℤ a +ℤ pos y → (q ≡ a) × (x ≡ y)
one_division k (pos i) (pos j) x y h g e =
    let f : k * i + x ≡ k * j + y = omega (arith, ints, e) in
    let same = one_multiple k i j x y h g f in (ap pos same.0, same.1)
one_division k (pos i) (negsuc j) x y h g e =
    let f = half_turned (k * i) (k * suc j) x y e in
    absurd (at_least_one k j y g (omega (arith, f)))
one_division k (negsuc i) (pos j) x y h g e =
    let f = half_turned (k * j) (k * suc i) y x (sym e) in
    absurd (at_least_one k i x h (omega (arith, f)))
one_division k (negsuc i) (negsuc j) x y h g e =
    let f = turned (k * suc i) (k * suc j) x y e in
    let same = one_multiple k (suc j) (suc i) x y h g f in (ap negsuc (omega (arith, same.0)), same.1)

-- and by one that is negative
turned_product : (b : ℕ) (q : ℤ) → negsuc b *ℤ q ≡ pos (suc b) *ℤ neg_ℤ q
turned_product b (pos zero) = ap (λ x. neg_ℤ (pos x)) (mul-zero (suc b)) ∙ ap pos (sym (mul-zero (suc b)))
turned_product b (pos (suc n)) = refl
turned_product b (negsuc n) = refl

same_turned : (q a : ℤ) → neg_ℤ q ≡ neg_ℤ a → q ≡ a
same_turned q a e = omega (arith, ints)

pub only_division : (m n q s a b : ℤ) → IsDivision m n q s → IsDivision m n a b → (q ≡ a) × (s ≡ b)
only_division m n q (negsuc x) a b h g = absurd (let l = h.not_negative in omega (arith, ints, l))
only_division m n q (pos x) a (negsuc y) h g = absurd (let l = g.not_negative in omega (arith, ints, l))
only_division m (pos k) q (pos x) a (pos y) h g =
    let u = h.below in
    let v = g.below in
    let same = one_division k q a x y (omega (arith, ints, u)) (omega (arith, ints, v)) (sym h.whole ∙ g.whole) in (same.0, ap pos same.1)
only_division m (negsuc k) q (pos x) a (pos y) h g =
    let u = h.below in
    let v = g.below in
    let e = ap (λ z. z +ℤ pos x) (sym (turned_product k q)) ∙ (sym h.whole ∙ g.whole) ∙ ap (λ z. z +ℤ pos y) (turned_product k a) in
    let same = one_division (suc k) (neg_ℤ q) (neg_ℤ a) x y (omega (arith, ints, u)) (omega (arith, ints, v)) e in
    (same_turned q a same.0, ap pos same.1)
