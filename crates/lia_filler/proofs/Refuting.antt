-- A plain combination refutes its rows.
use Rattle.std.proofs.Common.{◌≡◌, ℕ, ℤ, pos, negsuc, ◌+ℤ◌, ◌*ℤ◌, ◌≤ℤ◌, List, [], ◌∷◌, Bool, true, false, refl, ap, arith}
use Rattle.std.specs.List.{AllByRecursion, AllZip}
use Rattle.std.proofs.Math.IntN.{zero-*ℤ}
use Rattle.std.proofs.lemmas.Int.{ints}
use Rattle.std.proofs.lemmas.List.Elements.{recursion_from_All}
use Rattle.lia_filler.specs.declared.row.Row.{Row}
use Rattle.lia_filler.specs.Plain.{coef, bound, multiplied, MayMultiply, IsPlainCombination}
use Rattle.lia_filler.specs.Solutions.{side_at, Satisfies, AreUnsatisfiable}
use Rattle.lia_filler.proofs.Ring as ring

-- the bounds come to at most the sides
below : (v : ℕ → ℤ) (rows : List Row) (ms : List ℤ) → AllZip MayMultiply rows ms → AllByRecursion (Satisfies v) rows
    → multiplied bound rows ms ≤ℤ multiplied (side_at v) rows ms
below v [] [] signs holds = omega (arith, ints)
below v [] (m ∷ ms) signs holds = absurd signs
below v (r ∷ rs) [] signs holds = absurd signs
below v (r ∷ rs) (m ∷ ms) (sign, signs) (h, hs) = omega (arith, ints, one m sign, below v rs ms signs hs)
  where
    turned : (b : Bool) → r.equal ≡ b → (n : ℕ) → MayMultiply r (negsuc n) → (negsuc n *ℤ bound r) ≤ℤ (negsuc n *ℤ side_at v r)
    turned true e n s = omega (arith, ints, ap (λ (z : ℤ). negsuc n *ℤ z) (h.1 e))
    turned false e n s = absurd (omega (arith, ints, s e))

    one : (m : ℤ) → MayMultiply r m → (m *ℤ bound r) ≤ℤ (m *ℤ side_at v r)
    one (pos n) s = ring.mul_le n (bound r) (side_at v r) h.0
    one (negsuc n) s = turned r.equal refl n s

-- the sides are added column by column
spread_out : (m a b c d x y z w : ℤ) → m *ℤ (a *ℤ x +ℤ b *ℤ y +ℤ c *ℤ z +ℤ d *ℤ w) ≡ (m *ℤ a) *ℤ x +ℤ (m *ℤ b) *ℤ y +ℤ (m *ℤ c) *ℤ z +ℤ (m *ℤ d) *ℤ w
spread_out m a b c d x y z w =
    omega (
      arith,
      ints,
      ring.mul-add m (a *ℤ x +ℤ b *ℤ y +ℤ c *ℤ z) (d *ℤ w),
      ring.mul-add m (a *ℤ x +ℤ b *ℤ y) (c *ℤ z),
      ring.mul-add m (a *ℤ x) (b *ℤ y),
      ring.mul_assoc m a x,
      ring.mul_assoc m b y,
      ring.mul_assoc m c z,
      ring.mul_assoc m d w,
    )

by_columns : (v : ℕ → ℤ) (rows : List Row) (ms : List ℤ) → AllZip MayMultiply rows ms
    → multiplied (side_at v) rows ms
    ≡ multiplied (coef 0) rows ms *ℤ v 0 +ℤ multiplied (coef 1) rows ms *ℤ v 1 +ℤ multiplied (coef 2) rows ms *ℤ v 2 +ℤ multiplied (coef 3) rows ms *ℤ v 3
by_columns v [] [] signs = omega (arith, ints, zero-*ℤ (v 0), zero-*ℤ (v 1), zero-*ℤ (v 2), zero-*ℤ (v 3))
by_columns v [] (m ∷ ms) signs = absurd signs
by_columns v (r ∷ rs) [] signs = absurd signs
by_columns v (r ∷ rs) (m ∷ ms) (sign, signs) =
    omega (
      arith,
      ints,
      by_columns v rs ms signs,
      spread_out m (coef 0 r) (coef 1 r) (coef 2 r) (coef 3 r) (v 0) (v 1) (v 2) (v 3),
      ring.add-mul (m *ℤ coef 0 r) (multiplied (coef 0) rs ms) (v 0),
      ring.add-mul (m *ℤ coef 1 r) (multiplied (coef 1) rs ms) (v 1),
      ring.add-mul (m *ℤ coef 2 r) (multiplied (coef 2) rs ms) (v 2),
      ring.add-mul (m *ℤ coef 3 r) (multiplied (coef 3) rs ms) (v 3),
    )

pub refuted : (rows : List Row) (ms : List ℤ) → IsPlainCombination rows ms → AreUnsatisfiable rows
refuted rows ms plain v holds =
    absurd (omega (
      arith,
      ints,
      plain.over,
      below v rows ms plain.signs (recursion_from_All (Satisfies v) rows holds),
      by_columns v rows ms plain.signs,
      ap (λ (z : ℤ). z *ℤ v 0) (plain.cancels 0 (omega arith)),
      ap (λ (z : ℤ). z *ℤ v 1) (plain.cancels 1 (omega arith)),
      ap (λ (z : ℤ). z *ℤ v 2) (plain.cancels 2 (omega arith)),
      ap (λ (z : ℤ). z *ℤ v 3) (plain.cancels 3 (omega arith)),
      zero-*ℤ (v 0),
      zero-*ℤ (v 1),
      zero-*ℤ (v 2),
      zero-*ℤ (v 3),
    ))
