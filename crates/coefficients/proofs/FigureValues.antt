-- The number of the digits before a point and behind it.
use Rattle.std.proofs.Common.{◌≡◌, ℕ, suc, ◌+◌, ◌-◌, ◌*◌, ◌^◌, ◌≤◌, ◌==◌, ◌∙◌, arith, false, Option, None, inl, subst, List, [], ◌∷◌, ◌++◌, length, fold, sym, ap}
use Rattle.std.proofs.Math.Nat.{add-mul, mul_assoc, mul_comm, mul-one, pow-succ', one-le-pow, zero-mul, le-mul_of_pos_right}
use Rattle.std.proofs.lemmas.List.Sums.{fold-append}
use Rattle.std.proofs.lemmas.Bool.Decides.{nat_tests}
use Rattle.sexpr.specs.Words.{numeral_value}
use Rattle.text_items.proofs.NumeralValues.{with_byte}
use Rattle.coefficients.specs.Fractions.{IsNarrowPair}
use Rattle.coefficients.specs.declared.fractions.Pair.{Pair}

-- digits behind others: each of them moves those by one place
fold_from : (digits : List ℕ) (n : ℕ) → fold with_byte n digits ≡ n * 10 ^ length digits + fold with_byte 0 digits
fold_from [] n = omega (arith, mul-one n)
fold_from (b ∷ digits) n =
    let here = fold_from digits (10 * n + (b - 48)) in
    let alone = fold_from digits (10 * 0 + (b - 48)) in
    let splits : (10 * n + (b - 48)) * 10 ^ length digits ≡ (10 * n) * 10 ^ length digits + (b - 48) * 10 ^ length digits = add-mul (10 * n) (b - 48) (10 ^ length digits) in
    let moves : n * 10 ^ suc (length digits) ≡ (10 * n) * 10 ^ length digits =
    ap (λ k. n * k) (pow-succ' 10 (length digits)) ∙ sym (mul_assoc n 10 (10 ^ length digits)) ∙ ap (λ k. k * 10 ^ length digits) (mul_comm n 10) in
    let first : (10 * 0 + (b - 48)) * 10 ^ length digits ≡ (b - 48) * 10 ^ length digits = ap (λ k. k * 10 ^ length digits) (omega arith) in
    omega (arith, here, alone, splits, moves, first)

pub value_joined : (before after : List ℕ) → numeral_value (before ++ after) ≡ numeral_value before * 10 ^ length after + numeral_value after
value_joined before after = fold-append with_byte 0 before after ∙ fold_from after (numeral_value before)

-- neither part is above the whole
pub before_least : (before after : List ℕ) → numeral_value before ≤ numeral_value (before ++ after)
before_least before after =
    let e = value_joined before after in
    let m = le-mul_of_pos_right (numeral_value before) (one-le-pow (length after) 10 (omega arith)) in
    omega (arith, e, m)

pub after_least : (before after : List ℕ) → numeral_value after ≤ numeral_value (before ++ after)
after_least before after = let e = value_joined before after in omega (arith, e)

-- the digits of a number stand for 0 where both parts do
pub zero_joined : (before after : List ℕ) → numeral_value before ≡ 0 → (numeral_value after == 0) ≡ (numeral_value (before ++ after) == 0)
zero_joined before after e = ap (λ n. n == 0) (sym (value_joined before after ∙ ap (λ n. n * 10 ^ length after + numeral_value after) e ∙ alone (10 ^ length after) (numeral_value after)))
  where
    alone : (m n : ℕ) → 0 * m + n ≡ n
    alone m n = let z = zero-mul m in omega arith

pub some_before : (before after : List ℕ) → (numeral_value before == 0) ≡ false → (numeral_value (before ++ after) == 0) ≡ false
some_before before after e = let l = before_least before after in grind (arith, nat_tests)

-- The parts of a figure: what is too wide on the way is too wide in the end.
pub wide_on : (most a b : ℕ) → most ≤ a → a ≤ b → most ≤ b
wide_on most a b h k = omega arith

pub wide_product : (most whole den : ℕ) (before after : List ℕ) → whole ≡ numeral_value before → den ≡ 10 ^ length after → most ≤ whole * den → most ≤ numeral_value (before ++ after)
wide_product most whole den before after e f h =
    let j = value_joined before after in
    let p : whole * den ≡ numeral_value before * 10 ^ length after = ap (λ n. n * den) e ∙ ap (λ n. numeral_value before * n) f in
    omega (arith, j, p, h)

pub joined : (whole den all rest : ℕ) (before after : List ℕ) → whole ≡ numeral_value before → den ≡ 10 ^ length after → all ≡ whole * den → rest ≡ numeral_value after → all + rest ≡ numeral_value (before ++ after)
joined whole den all rest before after e f g h =
    let j = value_joined before after in
    let p : whole * den ≡ numeral_value before * 10 ^ length after = ap (λ n. n * den) e ∙ ap (λ n. numeral_value before * n) f in
    omega (arith, j, p, g, h)

-- one of the parts is too wide
pub none_num : (o : Option Pair) (a b : ℕ) → o ≡ None → 2 ^ 127 ≤ a → IsNarrowPair o (a, b)
none_num o a b e h = subst (λ o. IsNarrowPair o (a, b)) (sym e) (inl h)
