-- Cited by crates above. The values of numerals, digit by digit.
use Rattle.std.proofs.Common.{ℕ, zero, suc, ◌+◌, ◌-◌, ◌*◌, ◌<◌, ◌≤◌, arith, List, [], ◌∷◌, length, take, fold, get_or, Some, None, Option}
use Rattle.std.specs.Option.{IfNone}
use Rattle.std.proofs.lemmas.List.Sums.{fold_more}
use Rattle.sexpr.specs.Words.{numeral_value}

-- a numeral so far
abbrev pub with_byte : ℕ → ℕ → ℕ
with_byte n b = 10 * n + (b - 48)

grows : (xs : List ℕ) (a : ℕ) → a ≤ fold with_byte a xs
grows [] a = omega arith
grows (x ∷ xs) a = omega (arith, grows xs (with_byte a x))

front_below : (xs : List ℕ) (k a : ℕ) → fold with_byte a (take k xs) ≤ fold with_byte a xs
front_below xs zero a = grows xs a
front_below [] (suc k) a = omega arith
front_below (x ∷ xs) (suc k) a = front_below xs k (with_byte a x)

pub wide_front : (digits : List ℕ) (k most : ℕ) → k < length digits → most ≤ 10 * numeral_value (take k digits) + (get_or digits k 0 - 48) → most ≤ numeral_value digits
wide_front digits k most inside h =
    let more = fold_more with_byte 0 digits k 0 inside in omega (arith, front_below digits (k + 1) 0, more)

pub if_none : {A : Type 0} (o : Option A) (P : Type 0) → P → IfNone o P
if_none None P p = p
if_none (Some a) P p = tt
