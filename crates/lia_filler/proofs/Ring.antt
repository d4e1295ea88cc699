-- Products of whole numbers: what `omega` takes for granted of sums alone.
use Rattle.std.proofs.Common.{◌≡◌, ℕ, zero, suc, ℤ, pos, negsuc, neg_ℤ, ◌+ℤ◌, ◌*ℤ◌, ◌≤ℤ◌, refl, arith}
use Rattle.std.proofs.Math.IntN.{suc_ℤ-*ℤ, pred_ℤ-*ℤ, zero-*ℤ, *ℤ_comm}
use Rattle.std.proofs.lemmas.Int.{ints}

pub mul-add : (a b c : ℤ) → a *ℤ (b +ℤ c) ≡ a *ℤ b +ℤ a *ℤ c
mul-add (pos zero) b c = omega (arith, ints, zero-*ℤ b, zero-*ℤ c, zero-*ℤ (b +ℤ c))
mul-add (pos (suc n)) b c = omega (arith, ints, suc_ℤ-*ℤ (pos n) b, suc_ℤ-*ℤ (pos n) c, suc_ℤ-*ℤ (pos n) (b +ℤ c), mul-add (pos n) b c)
mul-add (negsuc zero) b c = omega (arith, ints, pred_ℤ-*ℤ (pos 0) b, pred_ℤ-*ℤ (pos 0) c, pred_ℤ-*ℤ (pos 0) (b +ℤ c), zero-*ℤ b, zero-*ℤ c, zero-*ℤ (b +ℤ c))
mul-add (negsuc (suc n)) b c = omega (arith, ints, pred_ℤ-*ℤ (negsuc n) b, pred_ℤ-*ℤ (negsuc n) c, pred_ℤ-*ℤ (negsuc n) (b +ℤ c), mul-add (negsuc n) b c)

pub add-mul : (a b c : ℤ) → (a +ℤ b) *ℤ c ≡ a *ℤ c +ℤ b *ℤ c
add-mul a b c = omega (arith, ints, mul-add c a b, *ℤ_comm (a +ℤ b) c, *ℤ_comm a c, *ℤ_comm b c)

pub neg-mul : (a b : ℤ) → neg_ℤ a *ℤ b ≡ neg_ℤ (a *ℤ b)
neg-mul a b = omega (arith, ints, add-mul a (neg_ℤ a) b, zero-*ℤ b, sum-zero a b)
  where
    sum-zero : (a b : ℤ) → (a +ℤ neg_ℤ a) *ℤ b ≡ pos 0
    sum-zero a b =
        let e : ◌≡◌ {A = ℤ} (a +ℤ neg_ℤ a) (pos 0) = omega (arith, ints) in rw e (zero-*ℤ b)

pub mul-neg : (a b : ℤ) → a *ℤ neg_ℤ b ≡ neg_ℤ (a *ℤ b)
mul-neg a b = omega (arith, ints, neg-mul b a, *ℤ_comm a b, *ℤ_comm a (neg_ℤ b))

pub mul_assoc : (a b c : ℤ) → (a *ℤ b) *ℤ c ≡ a *ℤ (b *ℤ c)
mul_assoc (pos zero) b c =
    let e : ◌≡◌ {A = ℤ} (pos 0 *ℤ b) (pos 0) = zero-*ℤ b in rw e (omega (arith, ints, zero-*ℤ c, zero-*ℤ (b *ℤ c)))
mul_assoc (pos (suc n)) b c =
    omega (
      arith,
      ints,
      suc_ℤ-*ℤ (pos n) b,
      suc_ℤ-*ℤ (pos n) (b *ℤ c),
      grown (pos (suc n)) (pos n) b c (suc_ℤ-*ℤ (pos n) b),
      add-mul (pos n *ℤ b) b c,
      mul_assoc (pos n) b c,
    )
  where
    grown : (a d b c : ℤ) → a *ℤ b ≡ d *ℤ b +ℤ b → (a *ℤ b) *ℤ c ≡ (d *ℤ b +ℤ b) *ℤ c
    grown a d b c e = rw e refl
mul_assoc (negsuc zero) b c =
    let e : ◌≡◌ {A = ℤ} (negsuc 0 *ℤ b) (neg_ℤ b) = omega (arith, ints, pred_ℤ-*ℤ (pos 0) b, zero-*ℤ b) in
    rw e (omega (arith, ints, neg-mul b c, pred_ℤ-*ℤ (pos 0) (b *ℤ c), zero-*ℤ (b *ℤ c)))
mul_assoc (negsuc (suc n)) b c =
    omega (
      arith,
      ints,
      pred_ℤ-*ℤ (negsuc n) b,
      pred_ℤ-*ℤ (negsuc n) (b *ℤ c),
      shrunk (negsuc (suc n)) (negsuc n) b c (omega (arith, ints, pred_ℤ-*ℤ (negsuc n) b)),
      add-mul (negsuc n *ℤ b) (neg_ℤ b) c,
      neg-mul b c,
      mul_assoc (negsuc n) b c,
    )
  where
    shrunk : (a d b c : ℤ) → a *ℤ b ≡ d *ℤ b +ℤ neg_ℤ b → (a *ℤ b) *ℤ c ≡ (d *ℤ b +ℤ neg_ℤ b) *ℤ c
    shrunk a d b c e = rw e refl

pub one-mul : (a : ℤ) → pos 1 *ℤ a ≡ a
one-mul a = omega (arith, ints, suc_ℤ-*ℤ (pos 0) a, zero-*ℤ a)

pub mul_le : (n : ℕ) (a b : ℤ) → a ≤ℤ b → (pos n *ℤ a) ≤ℤ (pos n *ℤ b)
mul_le zero a b h = omega (arith, ints, zero-*ℤ a, zero-*ℤ b)
mul_le (suc n) a b h = omega (arith, ints, suc_ℤ-*ℤ (pos n) a, suc_ℤ-*ℤ (pos n) b, mul_le n a b h, h)
