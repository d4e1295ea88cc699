-- How great numbers get.
use Rattle.std.proofs.Common.{ℕ, ◌*◌, ◌^◌, ◌≤◌, ℤ, ◌+ℤ◌, ◌*ℤ◌, FitsSigned, unsigned_abs, arith}
use Rattle.std.specs.Int.{w128}
use Rattle.std.proofs.Math.Nat.{mul-le-mul}
use Rattle.std.proofs.lemmas.Int.{ints, unsigned_abs-mul, fits_signed_mul, fits_signed_from_abs}

-- a product is at most the product of the bounds
pub product_within : (a b : ℤ) (m n : ℕ) → unsigned_abs a ≤ m → unsigned_abs b ≤ n → unsigned_abs (a *ℤ b) ≤ m * n
product_within a b m n p q = omega (arith, unsigned_abs-mul a b, mul-le-mul p q)

pub product_fits : (a b : ℤ) → unsigned_abs a ≤ 2 ^ 105 → unsigned_abs b ≤ 2 ^ 18 → FitsSigned w128 (a *ℤ b)
product_fits a b p q = fits_signed_mul w128 a b (2 ^ 105) (2 ^ 18) p q (omega arith)

pub product_small : (a b : ℤ) → unsigned_abs a ≤ 2 ^ 105 → unsigned_abs b ≤ 2 ^ 18 → unsigned_abs (a *ℤ b) ≤ 2 ^ 123
product_small a b p q = product_within a b (2 ^ 105) (2 ^ 18) p q

pub factor_fits : (a b : ℤ) → unsigned_abs a ≤ 2 ^ 55 → unsigned_abs b ≤ 2 ^ 49 → FitsSigned w128 (a *ℤ b)
factor_fits a b p q = fits_signed_mul w128 a b (2 ^ 55) (2 ^ 49) p q (omega arith)

pub factor_small : (a b : ℤ) → unsigned_abs a ≤ 2 ^ 55 → unsigned_abs b ≤ 2 ^ 49 → unsigned_abs (a *ℤ b) ≤ 2 ^ 104
factor_small a b p q = product_within a b (2 ^ 55) (2 ^ 49) p q

pub sum_fits : (a x b y : ℤ) → unsigned_abs a ≤ 2 ^ 55 → unsigned_abs x ≤ 2 ^ 49 → unsigned_abs b ≤ 2 ^ 55 → unsigned_abs y ≤ 2 ^ 49
    → FitsSigned w128 (a *ℤ x +ℤ b *ℤ y)
sum_fits a x b y p q r s =
    fits_signed_from_abs w128 (a *ℤ x +ℤ b *ℤ y) (omega (arith, ints, factor_small a x p q, factor_small b y r s))
