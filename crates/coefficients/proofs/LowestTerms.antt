-- Lowest terms of quotients: what is taken out crosswise leaves parts that have nothing in common.
use Rattle.std.proofs.Common.{◌≡◌, inl, inr, ℕ, zero, suc, ◌+◌, ◌*◌, ◌/◌, ◌%◌, ◌^◌, ◌<◌, ◌≤◌, ◌∙◌, arith, Some, None, refl, sym, ap, subst, div-one}
use Rattle.std.specs.Int.{◌∣◌, IsGcd}
use Rattle.std.proofs.lemmas.Nat.{div-add-mod', mod-mul-add, mod_below}
use Rattle.std.proofs.lemmas.Nat.Gcd.{dvd_trans, IsGcd-from_zero, IsGcd-swap, IsGcd-from_mod, same_from_IsGcd}
use Rattle.std.proofs.Math.Nat.{dvd-mod_iff, dvd-mul_right, dvd-mul_right_of_dvd, mul-dvd-mul_right, div-mul_cancel, mul-div_cancel, mul_comm, mul_assoc, mul-mul-mul_comm, mul-pos, mul-zero, zero-mul, one-mul, add-mul, mul-lt-mul_of_pos_right, one-dvd, pos_of_dvd_of_pos, pow-succ', pow-le-pow_right, dvd_of_mul-dvd-mul_right}
use Rattle.coefficients.specs.Fractions.{IsFractionPair, IsNarrowPair}
use Rattle.coefficients.specs.declared.fractions.Pair.{Pair}
use Rattle.alethe_text.specs.Coefficients.{common_divisor, lowest}
use Rattle.alethe_text.proofs.LowestTerms.{divisor_is}

-- one step of Euclid's algorithm, onwards
step : (a b g : ℕ) → IsGcd a b g → IsGcd b (a % b) g
step a b g h = (h.1, (dvd-mod_iff g h.1).1 h.0, λ d p q. h.2 d ((dvd-mod_iff d p).0 q) p)

mod_scaled : (a b k : ℕ) → 0 < b → 0 < k → (a * k) % (b * k) ≡ (a % b) * k
mod_scaled a b k some positive =
    ap (λ n. n % (b * k)) split ∙ mod-mul-add (a / b) (b * k) ((a % b) * k) (mul-lt-mul_of_pos_right (mod_below a b some) positive)
  where
    split : a * k ≡ (a / b) * (b * k) + (a % b) * k
    split = ap (λ n. n * k) (sym (div-add-mod' a b)) ∙ add-mul (a / b * b) (a % b) k ∙ ap (λ n. n + (a % b) * k) (mul_assoc (a / b) b k)

-- what is common to multiples
scaled_in : (n a b g k : ℕ) → b < n → 0 < k → IsGcd a b g → IsGcd (a * k) (b * k) (g * k)
scaled_in zero a b g k h positive is = absurd (omega (arith, h))
scaled_in (suc n) a zero g k h positive is =
    let e : g ≡ a = same_from_IsGcd a 0 g a is (IsGcd-from_zero a 0 refl) in
    subst (λ x. IsGcd (a * k) (0 * k) (x * k)) (sym e) (IsGcd-from_zero (a * k) (0 * k) (zero-mul k))
scaled_in (suc n) a (suc b) g k h positive is =
    let some : 0 < suc b = omega arith in
    let less : a % suc b < n = omega (arith, h, mod_below a (suc b) some) in
    let next = scaled_in n (suc b) (a % suc b) g k less positive (step a (suc b) g is) in
    IsGcd-from_mod (a * k) (suc b * k) (g * k) (subst (λ m. IsGcd (suc b * k) m (g * k)) (sym (mod_scaled a (suc b) k some positive)) next)

scaled : (a b g k : ℕ) → 0 < k → IsGcd a b g → IsGcd (a * k) (b * k) (g * k)
scaled a b g k positive is = scaled_in (suc b) a b g k (omega arith) positive is

-- numbers that have nothing in common
abbrev AreCoprime : ℕ → ℕ → Type 0
AreCoprime a b = IsGcd a b 1

-- a divisor of a product that has nothing in common with one factor divides the other
divides_other : (d a b c : ℕ) → 0 < c → AreCoprime a b → d ∣ a → d ∣ (b * c) → d ∣ c
divides_other d a b c some coprime first product =
    subst (λ n. d ∣ n) (one-mul c) ((scaled a b 1 c some coprime).2 d (dvd-mul_right_of_dvd d first c) product)

coprime_product : (a b c : ℕ) → 0 < c → AreCoprime a b → AreCoprime a c → AreCoprime a (b * c)
coprime_product a b c some first second =
    (first.0, dvd-mul_right_of_dvd 1 first.1 c, λ d p q. second.2 d p (divides_other d a b c some first p q))

-- divisors of numbers that have nothing in common
coprime_parts : (a b x y : ℕ) → x ∣ a → y ∣ b → AreCoprime a b → AreCoprime x y
coprime_parts a b x y p q h =
    (one-dvd x, one-dvd y, λ d f g. h.2 d (dvd_trans d f p) (dvd_trans d g q))

-- The same fraction: the parts have this factor more.
pub record IsTimes (a b x y : ℕ) : Type 0 where
  pub factor : ℕ
  pub positive : 0 < factor
  pub num : a ≡ x * factor
  pub den : b ≡ y * factor
  pub coprime : AreCoprime x y
  pub some : 0 < y

-- what lowest terms are
pub lowest_times : (a b : ℕ) → 0 < b → IsTimes a b (lowest (a, b)).0 (lowest (a, b)).1
lowest_times a b some =
    let g = common_divisor a b in
    let is = divisor_is a b in
    let positive : 0 < g = pos_of_dvd_of_pos is.1 some in
    let num : a ≡ a / g * g = sym (div-mul_cancel g is.0) in
    let den : b ≡ b / g * g = sym (div-mul_cancel g is.1) in
    record {
      factor = g;
      positive = positive;
      num = num;
      den = den;
      coprime = (
        one-dvd (a / g),
        one-dvd (b / g),
        λ d p q.
            let both = is.2 (d * g) (subst (λ n. (d * g) ∣ n) (sym num) (mul-dvd-mul_right d p g)) (subst (λ n. (d * g) ∣ n) (sym den) (mul-dvd-mul_right d q g)) in
            dvd_of_mul-dvd-mul_right d positive (subst (λ n. (d * g) ∣ n) (sym (one-mul g)) both),
      );
      some = quotient_some (b / g) g (subst (λ n. 0 < n) den some);
    }
  where
    quotient_some : (x g : ℕ) → 0 < x * g → 0 < x
    quotient_some zero g h = absurd (omega (arith, subst (λ n. 0 < n) (zero-mul g) h))
    quotient_some (suc x) g h = omega arith

-- and nothing else is
pub times_lowest : (a b x y : ℕ) → IsTimes a b x y → ◌≡◌ {A = ℕ × ℕ} (x, y) (lowest (a, b))
times_lowest a b x y h =
    let g = common_divisor a b in
    let is : IsGcd a b (1 * h.factor) = subst (λ n. IsGcd n b (1 * h.factor)) (sym h.num) (subst (λ n. IsGcd (x * h.factor) n (1 * h.factor)) (sym h.den) (scaled x y 1 h.factor h.positive h.coprime)) in
    let same : h.factor ≡ g = same_from_IsGcd a b h.factor g (subst (λ n. IsGcd a b n) (one-mul h.factor) is) (divisor_is a b) in
    let num : x ≡ a / g = sym (mul-div_cancel x h.positive) ∙ ap (λ n. n / h.factor) (sym h.num) ∙ ap (λ n. a / n) same in
    let den : y ≡ b / g = sym (mul-div_cancel y h.positive) ∙ ap (λ n. n / h.factor) (sym h.den) ∙ ap (λ n. b / n) same in
    ap (λ n. (n, y)) num ∙ ap (λ n. (a / g, n)) den

-- The parts of a quotient of two fractions, where what is common to each two of them that are to stand on different sides is
-- taken out first: a over p by b over q.
pub crossed : (a p b q t u v w x z y o : ℕ) → IsTimes a b t u → IsTimes q p v w → IsTimes t w x z → IsTimes v u y o → ◌≡◌ {A = ℕ × ℕ} (x * y, z * o) (lowest (a * q, p * b))
crossed a p b q t u v w x z y o tops bottoms first second =
    times_lowest (a * q) (p * b) (x * y) (z * o) (record {
      factor = (first.factor * second.factor) * (tops.factor * bottoms.factor);
      positive = mul-pos (mul-pos first.positive second.positive) (mul-pos tops.positive bottoms.positive);
      num = ap (λ n. n * q) tops.num ∙ ap (λ n. (t * tops.factor) * n) bottoms.num ∙ mul-mul-mul_comm t tops.factor v bottoms.factor
          ∙ ap (λ n. n * (tops.factor * bottoms.factor)) (ap (λ n. n * v) first.num ∙ ap (λ n. (x * first.factor) * n) second.num ∙ mul-mul-mul_comm x first.factor y second.factor)
          ∙ mul_assoc (x * y) (first.factor * second.factor) (tops.factor * bottoms.factor);
      den = mul_comm p b ∙ ap (λ n. n * p) tops.den ∙ ap (λ n. (u * tops.factor) * n) bottoms.den ∙ mul-mul-mul_comm u tops.factor w bottoms.factor
          ∙ ap (λ n. n * (tops.factor * bottoms.factor)) (mul_comm u w ∙ ap (λ n. n * u) first.den ∙ ap (λ n. (z * first.factor) * n) second.den ∙ mul-mul-mul_comm z first.factor o second.factor)
          ∙ mul_assoc (z * o) (first.factor * second.factor) (tops.factor * bottoms.factor);
      coprime = IsGcd-swap (z * o) (x * y) 1 (coprime_product_or (z * o) x y
          (IsGcd-swap x (z * o) 1 (coprime_product x z o second.some first.coprime x_o))
          (IsGcd-swap y (z * o) 1 (coprime_product y z o second.some y_z second.coprime)));
      some = mul-pos first.some second.some;
    })
  where
    divides : (n m k : ℕ) → n ≡ m * k → m ∣ n
    divides n m k e = subst (λ j. m ∣ j) (sym e) (dvd-mul_right m k)

    -- the parts that come of different sides of a pair
    x_o : AreCoprime x o
    x_o = coprime_parts t u x o (divides t x first.factor first.num) (divides u o second.factor second.den) tops.coprime

    y_z : AreCoprime y z
    y_z = coprime_parts v w y z (divides v y second.factor second.num) (divides w z first.factor first.den) bottoms.coprime

    -- a product, also where its second factor is 0
    coprime_product_or : (a b c : ℕ) → AreCoprime a b → AreCoprime a c → AreCoprime a (b * c)
    coprime_product_or a b zero h k = subst (λ n. AreCoprime a n) (sym (mul-zero b)) k
    coprime_product_or a b (suc c) h k = coprime_product a b (suc c) (omega arith) h k

-- the same, of pairs as the code has them
pub times_of : (a b : ℕ) (c : Pair) → 0 < b → IsFractionPair c (lowest (a, b)) → IsTimes a b c.num c.den
times_of a b c some h =
    subst (λ n. IsTimes a b n c.den) (sym h.num) (subst (λ n. IsTimes a b (lowest (a, b)).0 n) (sym h.den) (lowest_times a b some))

pub divided_is : (a b g : ℕ) (c : Pair) → IsGcd a b g → c.num ≡ a / g → c.den ≡ b / g → IsFractionPair c (lowest (a, b))
divided_is a b g c is e f =
    let same = same_from_IsGcd a b g (common_divisor a b) is (divisor_is a b) in
    record { num = e ∙ ap (λ n. a / n) same; den = f ∙ ap (λ n. b / n) same }

-- a whole number is in lowest terms
pub whole_is : (p : Pair) → p.den ≡ 1 → IsFractionPair p (lowest (p.num, p.den))
whole_is p one = divided_is p.num p.den 1 p (subst (λ b. IsGcd p.num b 1) (sym one) (one-dvd p.num, one-dvd 1, λ d first second. second)) (sym (div-one p.num)) (sym (div-one p.den))

pub divisor_some : (a b g : ℕ) → IsGcd a b g → 0 < b → 0 < g
divisor_some a b g is some = pos_of_dvd_of_pos is.1 some

-- the parts of a quotient, as the code takes out what is common
pub quotient_is : (above below tops bottoms first second : Pair) → 0 < above.den → 0 < below.num → IsFractionPair tops (lowest (above.num, below.num)) → IsFractionPair bottoms (lowest (below.den, above.den))
    → IsFractionPair first (lowest (tops.num, bottoms.den)) → IsFractionPair second (lowest (bottoms.num, tops.den))
    → ◌≡◌ {A = ℕ × ℕ} (first.num * second.num, first.den * second.den) (lowest (above.num * below.den, above.den * below.num))
quotient_is above below tops bottoms first second over some t b f s =
    let t' = times_of above.num below.num tops some t in
    let b' = times_of below.den above.den bottoms over b in
    crossed above.num above.den below.num below.den tops.num tops.den bottoms.num bottoms.den first.num first.den second.num second.den
    t' b' (times_of tops.num bottoms.den first b'.some f) (times_of bottoms.num tops.den second t'.some s)

pub narrow_pair : (a b : ℕ) (p : ℕ × ℕ) (r : Pair) → ◌≡◌ {A = ℕ × ℕ} (a, b) p → (r.num ≡ a) × (a < 2 ^ 127) → (r.den ≡ b) × (b < 2 ^ 127) → IsNarrowPair (Some r) p
narrow_pair a b p r e num den =
    let f : a ≡ p.0 = ap (λ (q : ℕ × ℕ). q.0) e in
    let g : b ≡ p.1 = ap (λ (q : ℕ × ℕ). q.1) e in
    (record { num = num.0 ∙ f; den = den.0 ∙ g }, subst (λ n. n < 2 ^ 127) f num.1, subst (λ n. n < 2 ^ 127) g den.1)

pub wide_num : (a b : ℕ) (p : ℕ × ℕ) → ◌≡◌ {A = ℕ × ℕ} (a, b) p → 2 ^ 127 ≤ a → IsNarrowPair None p
wide_num a b p e h = inl (subst (λ n. 2 ^ 127 ≤ n) (ap (λ (q : ℕ × ℕ). q.0) e) h)

pub wide_den : (a b : ℕ) (p : ℕ × ℕ) → ◌≡◌ {A = ℕ × ℕ} (a, b) p → 2 ^ 127 ≤ b → IsNarrowPair None p
wide_den a b p e h = inr (subst (λ n. 2 ^ 127 ≤ n) (ap (λ (q : ℕ × ℕ). q.1) e) h)

-- a power of ten that is too wide already is no less further on
pub wide_power : (most power k exponent : ℕ) → power ≡ 10 ^ k → k < exponent → most ≤ power * 10 → most ≤ 10 ^ exponent
wide_power most power k exponent same less wide =
    let one : 10 ^ suc k ≡ 10 * 10 ^ k = pow-succ' 10 k in
    let more : 10 ^ suc k ≤ 10 ^ exponent = pow-le-pow_right {n = 10} (omega arith) {i = suc k} {j = exponent} (omega arith) in
    omega (arith, one, more, same, wide)
