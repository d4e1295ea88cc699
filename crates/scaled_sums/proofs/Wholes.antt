-- Cited by crates above. Multiples among whole numbers of either sign, and rounding up to one.
use Rattle.std.proofs.Common.{◌≡◌, ℕ, ◌+◌, ◌*◌, ◌/◌, ◌%◌, ◌<◌, ℤ, pos, negsuc, neg_ℤ, ◌+ℤ◌, ◌*ℤ◌, unsigned_abs, nat_eq, IsTrue, ◌↔◌, refl, sym, ap, ◌∙◌, arith}
use Rattle.std.proofs.lemmas.Bool.{eqb-true, eq-eqb}
use Rattle.std.proofs.Math.Nat.{div-add-mod, mod-lt, mul-mod_right}
use Rattle.std.proofs.lemmas.Int.{ints, unsigned_abs-mul}
use Rattle.std.specs.Int.{int_rem_euclid}
use Rattle.rule_model.specs.Arith.{IsWhole, IsRoundedUp}
use Rattle.rule_model.proofs.Ring.{mul-neg, one-mul}

whole : (a n : ℕ) → a ≡ n * (a / n) + a % n
whole a n = sym (div-add-mod a n)

-- a product of naturals, as one of whole numbers
natural : (n q : ℕ) → pos n *ℤ pos q ≡ pos (n * q)
natural n q = refl

pub rounded : (n : ℕ) (z r : ℤ) → 0 < n → r ≡ int_rem_euclid (neg_ℤ z) (pos n) → IsRoundedUp n z (z +ℤ r)
rounded n z r some e = go (neg_ℤ z) refl e
  where
    go : (w : ℤ) → neg_ℤ z ≡ w → r ≡ int_rem_euclid w (pos n) → IsRoundedUp n z (z +ℤ r)
    go (pos a) f e =
        let parts_are = whole a n in
        let small = mod-lt a some in
        let turned = mul-neg (pos n) (pos (a / n)) in
        let product = natural n (a / n) in
        record {
          whole = (neg_ℤ (pos (a / n)), omega (arith, ints, e, f, parts_are, turned, product));
          above = omega (arith, ints, e);
          near = omega (arith, ints, e, small);
        }
    go (negsuc a) f e =
        let parts_are = whole a n in
        let small = mod-lt a some in
        let product = natural n (a / n + 1) in
        record {
          whole = (pos (a / n + 1), omega (arith, ints, e, f, parts_are, small, product));
          above = omega (arith, ints, e, small);
          near = omega (arith, ints, e, small);
        }

-- the rest after division by a number tells whether a number is its multiple
pub rest_decides : (n : ℕ) (z : ℤ) (m : ℕ) → 0 < n → m ≡ unsigned_abs z → IsTrue (nat_eq (m % n) 0) ↔ IsWhole n z
rest_decides n z m some e = (λ t. there z e (eqb-true (m % n) 0 t), λ w. back w.0 w.1)
  where
    there : (z : ℤ) → m ≡ unsigned_abs z → m % n ≡ 0 → IsWhole n z
    there (pos a) e f = (pos (m / n), omega (arith, ints, e, f, whole m n, natural n (m / n)))
    there (negsuc a) e f = (neg_ℤ (pos (m / n)), omega (arith, ints, e, f, whole m n, natural n (m / n), mul-neg (pos n) (pos (m / n))))

    back : (k : ℤ) → z ≡ pos n *ℤ k → IsTrue (nat_eq (m % n) 0)
    back k f =
        let same : ◌≡◌ {A = ℕ} m (n * unsigned_abs k) = e ∙ (ap unsigned_abs f ∙ unsigned_abs-mul (pos n) k) in
        eq-eqb (m % n) 0 (ap (λ x. x % n) same ∙ mul-mod_right n (unsigned_abs k))

pub whole_nothing : (n : ℕ) → IsWhole n (pos 0)
whole_nothing n = (pos 0, sym (natural n 0 ∙ ap pos (omega arith)))

-- each number is a multiple of 1
pub whole_by_one : (n : ℕ) (z : ℤ) → n ≡ 1 → IsWhole n z
whole_by_one n z e = (z, rw e (sym (one-mul z)))

pub rounded_by_one : (n : ℕ) (z : ℤ) → n ≡ 1 → IsRoundedUp n z z
rounded_by_one n z e = record {
  whole = whole_by_one n z e;
  above = omega (arith, ints);
  near = omega (arith, ints, e);
}
