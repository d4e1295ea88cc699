-- Multipliers with signs and limits, once a column more is eliminated.
use Rattle.std.proofs.Common.{◌≡◌, ◌⊎◌, inl, inr, ℕ, zero, suc, ◌*◌, ◌^◌, ◌<◌, ◌≤◌, ℤ, pos, negsuc, neg_ℤ, ◌+ℤ◌}
use Rattle.std.proofs.Common.{◌*ℤ◌, ◌≤ℤ◌, ◌<ℤ◌, List, [], ◌∷◌, length, get_or, unsigned_abs, All, sym, ◌∙◌, arith}
use Rattle.std.proofs.Math.Nat.{mul-le-mul_right}
use Rattle.std.proofs.Math.IntN.{zero-*ℤ, *ℤ_comm}
use Rattle.std.proofs.lemmas.Int.{ints}
use Rattle.std.proofs.lemmas.Bool.{cases_lt}
use Rattle.std.proofs.lemmas.List.{get_or_default}
use Rattle.std.proofs.lemmas.List.Elements.{All-weaker}
use Rattle.lia_filler.specs.declared.row.Row.{Row}
use Rattle.lia_filler.specs.Plain.{coef, multiplied}
use Rattle.lia_filler.specs.Mixing.{mixed}
use Rattle.lia_filler.specs.Elimination.{multiplier_limit, coef_limit, HaveSigns, IsDerived, in_column, paired}
use Rattle.lia_filler.proofs.Ring as ring
use Rattle.lia_filler.proofs.Sizes.{product_within}
use Rattle.lia_filler.proofs.Multiplied.{length-mixed, get_or-mixed, multiplied-mixed}

-- products of numbers that are not negative
not_negative : (a m : ℤ) → pos 0 ≤ℤ a → pos 0 ≤ℤ m → pos 0 ≤ℤ (a *ℤ m)
not_negative (pos n) m p q = omega (arith, ints, ring.mul_le n (pos 0) m q, *ℤ_comm (pos n) (pos 0), zero-*ℤ (pos n))
not_negative (negsuc n) m p q = absurd (omega (arith, ints, p))

mixed_signs : (rows : List Row) (a b : ℤ) (xs ys : List ℤ) → pos 0 ≤ℤ a → pos 0 ≤ℤ b → HaveSigns rows xs → HaveSigns rows ys → HaveSigns rows (mixed a xs b ys)
mixed_signs [] a b xs ys p q h k = tt
mixed_signs (r ∷ rs) a b [] ys p q h k = absurd h
mixed_signs (r ∷ rs) a b (x ∷ xs) [] p q h k = absurd k
mixed_signs (r ∷ rs) a b (x ∷ xs) (y ∷ ys) p q h k =
    (λ e. omega (arith, ints, not_negative a x p (h.0 e), not_negative b y q (k.0 e)), mixed_signs rs a b xs ys p q h.1 k.1)

-- the limits
pub limits_rise : (k : ℕ) → (1 ≤ coef_limit k) × (multiplier_limit k ≤ multiplier_limit (suc k)) × (coef_limit k ≤ coef_limit (suc k))
limits_rise zero = (omega arith, omega arith, omega arith)
limits_rise (suc k) =
    let one : 1 ≤ coef_limit (suc k) = omega (arith, (limits_rise k).0, (limits_rise k).2) in
    (one, omega (arith, mul-le-mul_right (multiplier_limit (suc k)) one), omega (arith, mul-le-mul_right (coef_limit (suc k)) one))

pub limits_before : (k : ℕ) → k < 4 → (multiplier_limit k ≤ 2 ^ 49) × (coef_limit k ≤ 2 ^ 55)
limits_before zero h = (omega arith, omega arith)
limits_before (suc zero) h = (omega arith, omega arith)
limits_before (suc (suc zero)) h = (omega arith, omega arith)
limits_before (suc (suc (suc zero))) h = (omega arith, omega arith)
limits_before (suc (suc (suc (suc k)))) h = absurd (omega (arith, h))

-- a sum of two products
sum_within : (a x b y : ℤ) (m n : ℕ) → unsigned_abs a ≤ m → unsigned_abs x ≤ n → unsigned_abs b ≤ m → unsigned_abs y ≤ n
    → unsigned_abs (a *ℤ x +ℤ b *ℤ y) ≤ 2 * (m * n)
sum_within a x b y m n p q r s = omega (arith, ints, product_within a x m n p q, product_within b y m n r s)

mixed_small : (a b : ℤ) (xs ys : List ℤ) (m n : ℕ) → length xs ≡ length ys → unsigned_abs a ≤ m → unsigned_abs b ≤ m
    → All (λ x. unsigned_abs x ≤ n) xs → All (λ y. unsigned_abs y ≤ n) ys → All (λ z. unsigned_abs z ≤ 2 * (m * n)) (mixed a xs b ys)
mixed_small a b xs ys m n e p q hs ks k d h =
    let long : k < length xs = omega (arith, h, length-mixed a b xs ys e) in
    let entry = get_or_default (mixed a xs b ys) k d (pos 0) h ∙ get_or-mixed a b xs ys k e long in
    rw entry (sum_within a (get_or xs k (pos 0)) b (get_or ys k (pos 0)) m n p (hs k (pos 0) long) q (ks k (pos 0) (omega (arith, long, e))))

-- taken as often as the other has in the column
cancelled : (a b : ℤ) → neg_ℤ b *ℤ a +ℤ a *ℤ b ≡ pos 0
cancelled a b = omega (arith, ints, ring.neg-mul b a, *ℤ_comm a b)

nothing : (a b : ℤ) → a *ℤ pos 0 +ℤ b *ℤ pos 0 ≡ pos 0
nothing a b = omega (arith, ints, *ℤ_comm a (pos 0), zero-*ℤ a, *ℤ_comm b (pos 0), zero-*ℤ b)

pub derived_pair : (rows : List Row) (k : ℕ) (x y : List ℤ) → k < 4 → IsDerived rows k x → IsDerived rows k y → pos 0 <ℤ in_column rows k x
    → in_column rows k y <ℤ pos 0 → IsDerived rows (suc k) (paired rows k x y)
derived_pair rows k x y within dx dy high low = record {
  each = length-mixed a b x y same ∙ dx.each;
  signs = mixed_signs rows a b x y (omega (arith, ints, low)) (omega (arith, ints, high)) dx.signs dy.signs;
  cancels = λ j l. each_way j l (cases_lt j k);
  small =
      All-weaker (λ m. unsigned_abs m ≤ 2 * (coef_limit k * multiplier_limit k)) (λ m. unsigned_abs m ≤ multiplier_limit (suc k)) (λ m h. h)
      (mixed a x b y) (mixed_small a b x y (coef_limit k) (multiplier_limit k) same small_a small_b dx.small dy.small);
  narrow =
      λ j l. rw (multiplied-mixed (coef j) a b rows x y same)
      (sum_within a (multiplied (coef j) rows x) b (multiplied (coef j) rows y) (coef_limit k) (coef_limit k) small_a (dx.narrow j l) small_b
      (dy.narrow j l));
}
  where
    a : ℤ
    a = neg_ℤ (in_column rows k y)

    b : ℤ
    b = in_column rows k x

    same : length x ≡ length y
    same = dx.each ∙ sym dy.each

    small_a : unsigned_abs a ≤ coef_limit k
    small_a = omega (arith, ints, dy.narrow k within)

    small_b : unsigned_abs b ≤ coef_limit k
    small_b = dx.narrow k within

    earlier : (j : ℕ) → j < k → multiplied (coef j) rows (mixed a x b y) ≡ pos 0
    earlier j l = rw (multiplied-mixed (coef j) a b rows x y same, dx.cancels j l, dy.cancels j l) (nothing a b)

    own : (j : ℕ) → j ≡ k → multiplied (coef j) rows (mixed a x b y) ≡ pos 0
    own j e = rw e (multiplied-mixed (coef k) a b rows x y same ∙ cancelled (in_column rows k x) (in_column rows k y))

    each_way : (j : ℕ) → j < suc k → (j < k) ⊎ (k ≤ j) → multiplied (coef j) rows (mixed a x b y) ≡ pos 0
    each_way j l (inl before) = earlier j before
    each_way j l (inr after) = own j (omega (arith, l, after))

pub derived_level : (rows : List Row) (k : ℕ) (x : List ℤ) → k < 4 → IsDerived rows k x → in_column rows k x ≡ pos 0 → IsDerived rows (suc k) x
derived_level rows k x within dx level = record {
  each = dx.each;
  signs = dx.signs;
  cancels = λ j l. each_way j l (cases_lt j k);
  small =
      All-weaker (λ m. unsigned_abs m ≤ multiplier_limit k) (λ m. unsigned_abs m ≤ multiplier_limit (suc k))
      (λ m h. omega (arith, h, (limits_rise k).1)) x dx.small;
  narrow = λ j l. omega (arith, dx.narrow j l, (limits_rise k).2);
}
  where
    own : (j : ℕ) → j ≡ k → multiplied (coef j) rows x ≡ pos 0
    own j e = rw e level

    each_way : (j : ℕ) → j < suc k → (j < k) ⊎ (k ≤ j) → multiplied (coef j) rows x ≡ pos 0
    each_way j l (inl before) = dx.cancels j before
    each_way j l (inr after) = own j (omega (arith, l, after))
