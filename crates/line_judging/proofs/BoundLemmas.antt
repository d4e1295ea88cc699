-- The bound of a sum of lines is one.
use Rattle.std.proofs.Common.{◌≡◌, inl, inr, ℕ, ℤ, ◌≤ℤ◌, List, [], ◌∷◌, sym, subst, ◌∙◌, arith}
use Rattle.std.proofs.lemmas.Int.{ints}
use Rattle.rule_model.specs.Arith.{CoefficientLine, IsRoundedUp, IsScaledBound, IsAddedBound}
use Rattle.rule_model.proofs.Ring.{mul_le}
use Rattle.rule_model.proofs.Arith.{no_step}
use Rattle.linear_lines.specs.Lines.{IsAbsurd}
use Rattle.line_judging.specs.Sums.{AreAbsurd}

rounded_most : (m : ℕ) (z x y : ℤ) → IsRoundedUp m z x → IsRoundedUp m z y → x ≤ℤ y
rounded_most m z x y a b =
    let k = a.whole.0 in
    let j = b.whole.0 in
    let e = a.whole.1 in
    let f = b.whole.1 in
    let le = no_step m k j (omega (arith, ints, e, f, a.near, b.above)) in
    omega (arith, ints, e, f, mul_le m k j le)

one_rounded : (m : ℕ) (z x y : ℤ) → IsRoundedUp m z x → IsRoundedUp m z y → x ≡ y
one_rounded m z x y a b = omega (arith, ints, rounded_most m z x y a b, rounded_most m z y x b a)

one_scaled : (m : ℕ) (l : CoefficientLine) (x y : ℤ) → IsScaledBound m l x → IsScaledBound m l y → x ≡ y
one_scaled m l x y (inl a) (inl b) = one_rounded m _ x y a.1 b.1
one_scaled m l x y (inl a) (inr b) = absurd (b.0 a.0)
one_scaled m l x y (inr a) (inl b) = absurd (a.0 b.0)
one_scaled m l x y (inr a) (inr b) = a.1 ∙ sym b.1

one_bound : (m : ℕ) (ls : List CoefficientLine) (x y : ℤ) → IsAddedBound m ls x → IsAddedBound m ls y → x ≡ y
one_bound m [] x y a b = a ∙ sym b
one_bound m (l ∷ ls) x y (p, q, a, b, e) (r, t, c, d, f) =
    omega (arith, ints, e, f, one_scaled m l p r a c, one_bound m ls q t b d)

-- the lines are absurd by this bound, if by some
pub absurd_by : (m : ℕ) (ls : List CoefficientLine) (bound : ℤ) → IsAddedBound m ls bound → AreAbsurd m ls → IsAbsurd m ls bound
absurd_by m ls bound added is = subst (IsAbsurd m ls) (one_bound m ls is.bound bound is.added added) is.sum
