-- Cited by crates above. Coefficients are fractions in lowest terms.
use Rattle.std.proofs.Common.{◌≡◌, ◌<◌, ◌≤◌, ◌*◌, ◌/◌, ◌%◌, ◌^◌, ◌==◌, ℕ, zero, suc, ℤ, pos, Bool, true, false, refl, sym, ◌∙◌, ap, subst, arith, if◌then◌else◌}
use Rattle.std.specs.Prelude.{neg_ℤ, unsigned_abs, ◌*ℤ◌}
use Rattle.std.specs.Int.{◌∣◌, IsGcd}
use Rattle.std.proofs.lemmas.Nat.Gcd.{IsGcd-from_zero, IsGcd-from_mod, le_of_dvd}
use Rattle.std.proofs.lemmas.Int.{unsigned_abs-mul}
use Rattle.std.proofs.Math.Nat.{div-mul_cancel, dvd-mul_right, mul_right_comm, mul_comm, mul-one, zero-mul, one-mul, pos_of_dvd_of_pos, le_of_mul-le-mul_left}
use Rattle.std.proofs.lemmas.Bool.Decides.{nat_tests}
use Rattle.std.proofs.lemmas.Nat.{le-div}
use Rattle.rule_model.specs.WellFormed.{IsLowest, IsNarrow}
use Rattle.alethe_text.specs.Coefficients.{common_divisor_in, common_divisor, lowest, signed}

divisor_in : (n a b : ℕ) → b < n → IsGcd a b (common_divisor_in n a b)
divisor_in zero a b h = absurd (omega (arith, h))
divisor_in (suc n) a b h = go (b == 0) refl (λ some. divisor_in n b (a % b) (omega (arith, some, h)))
  where
    go : (z : Bool) → (b == 0) ≡ z → (0 < b → IsGcd b (a % b) (common_divisor_in n b (a % b))) → IsGcd a b (if z then a else common_divisor_in n b (a % b))
    go true e ih = IsGcd-from_zero a b (grind (arith, nat_tests))
    go false e ih = IsGcd-from_mod a b _ (ih (grind (arith, nat_tests)))

pub divisor_is : (a b : ℕ) → IsGcd a b (common_divisor a b)
unfolding common_divisor
divisor_is a b = divisor_in (suc b) a b (omega arith)

-- what divides a whole number divides its absolute value
factor_of_size : (k n : ℕ) (z m : ℤ) → unsigned_abs z ≡ n → z ≡ pos k *ℤ m → n ≡ k * unsigned_abs m
factor_of_size k n z m size e = sym size ∙ (ap unsigned_abs e ∙ unsigned_abs-mul (pos k) m)

-- a number that divides both parts of a pair in lowest terms is 1
one_of_common : (a b k x y : ℕ) → 0 < b → a / common_divisor a b ≡ k * x → b / common_divisor a b ≡ k * y → k ≡ 1
one_of_common a b k x y some e f =
    let g = common_divisor a b in
    let gcd = divisor_is a b in
    let first : a ≡ (k * g) * x = sym (div-mul_cancel g gcd.0) ∙ (ap (λ n. n * g) e ∙ mul_right_comm k x g) in
    let second : b ≡ (k * g) * y = sym (div-mul_cancel g gcd.1) ∙ (ap (λ n. n * g) f ∙ mul_right_comm k y g) in
    let divides : (k * g) ∣ g = gcd.2 (k * g) (subst (λ n. (k * g) ∣ n) (sym first) (dvd-mul_right (k * g) x)) (subst (λ n. (k * g) ∣ n) (sym second) (dvd-mul_right (k * g) y)) in
    let positive : 0 < g = pos_of_dvd_of_pos gcd.1 some in
    let product : 0 < k * g = pos_of_dvd_of_pos divides positive in
    let small : g * k ≤ g * 1 = subst (λ n. n ≤ g * 1) (mul_comm k g) (subst (λ n. k * g ≤ n) (sym (mul-one g)) (le_of_dvd positive divides)) in
    let most : k ≤ 1 = le_of_mul-le-mul_left small positive in
    at_least k g product most
  where
    at_least : (k g : ℕ) → 0 < k * g → k ≤ 1 → k ≡ 1
    at_least zero g p h = absurd (omega (arith, subst (λ n. 0 < n) (zero-mul g) p))
    at_least (suc k) g p h = omega (arith, h)

quotient_some : (a b : ℕ) → 0 < b → 0 < b / common_divisor a b
quotient_some a b some =
    let g = common_divisor a b in
    let gcd = divisor_is a b in
    le-div 1 b g (pos_of_dvd_of_pos gcd.1 some) (subst (λ n. n ≤ b) (sym (one-mul g)) (le_of_dvd some gcd.1))

sized : (negative : Bool) (a : ℕ) → unsigned_abs (if negative then neg_ℤ (pos a) else pos a) ≡ a
sized false a = refl
sized true zero = refl
sized true (suc a) = refl

narrow : (negative : Bool) (a : ℕ) → a < 2 ^ 127 → IsNarrow (if negative then neg_ℤ (pos a) else pos a)
narrow false a h = (grind arith, grind arith)
narrow true a h = (grind arith, grind arith)

-- the fraction of a pair in lowest terms
pub lowest_is : (negative : Bool) (p : ℕ × ℕ) → 0 < p.1 → (lowest p).0 < 2 ^ 127 → (lowest p).1 < 2 ^ 127 → IsLowest (signed negative (lowest p))
lowest_is negative (a, b) some narrow_a narrow_b = record {
  over_zero = let some' = quotient_some a b some in grind arith;
  lowest = λ k m n e f.
      one_of_common a b k (unsigned_abs m) (unsigned_abs n) some
      (factor_of_size k (a / common_divisor a b) _ m (sized negative (a / common_divisor a b)) e)
      (factor_of_size k (b / common_divisor a b) _ n refl f);
  narrow_num = narrow negative (a / common_divisor a b) narrow_a;
  narrow_den = narrow false (b / common_divisor a b) narrow_b;
}
