-- Cited by crates above. Euclid's algorithm, and the least common multiple by it.
use Rattle.std.proofs.Common.{◌≡◌, ℕ, zero, suc, ◌+◌, ◌*◌, ◌-◌, ◌/◌, ◌%◌, ◌^◌, ◌<◌, ◌≤◌, Option, Some, None, SomeIff, IfSome, IfNone, sym, ap, subst, ◌∙◌, arith}
use Rattle.std.proofs.Math.Nat.{mul-sub, div-add-mod, mul-div_cancel_left, eq_of_mul-eq-mul_left}
use Rattle.rule_model.specs.Arith.{Divides}
use Rattle.scaled_sums.specs.Multiples.{IsLeastMultipleOf}
use Rattle.scaled_sums.specs.Divisors.{IsGreatestDivisor}

-- the number is its quotient's multiple and the rest
whole : (a b : ℕ) → a ≡ b * (a / b) + a % b
whole a b = sym (div-add-mod a b)

pub divisor_at_end : (a b : ℕ) → b ≡ 0 → IsGreatestDivisor a b a
divisor_at_end a b e = record {
  first = (1, omega arith);
  second = (0, omega (arith, e));
  greatest = λ d m one other. one;
}

pub divisor_by_rest : (a b g : ℕ) → IsGreatestDivisor b (a % b) g → IsGreatestDivisor a b g
divisor_by_rest a b g h = record {
  first = divides_sum g b (a % b) (a / b) a (whole a b) h.first h.second;
  second = h.first;
  greatest = λ d m one other. h.greatest d m other (divides_rest d (a * m) (b * m) (a / b) ((a % b) * m) (multiplied a b (a / b) (a % b) m (whole a b)) one other);
}
  where
    divides_sum : (g b r q a : ℕ) → a ≡ b * q + r → Divides g b → Divides g r → Divides g a
    divides_sum g b r q a e (j, f) (k, h) = (j * q + k, omega (arith, e, ap (λ x. x * q) f, h))

    multiplied : (a b q r m : ℕ) → a ≡ b * q + r → a * m ≡ (b * m) * q + r * m
    multiplied a b q r m e = omega (arith, ap (λ x. x * m) e)

    divides_rest : (d x y q r : ℕ) → x ≡ y * q + r → Divides d x → Divides d y → Divides d r
    divides_rest d x y q r e (j, f) (k, h) = (j - k * q, omega (arith, e, f, ap (λ z. z * q) h, mul-sub d j (k * q)))

-- from the greatest divisor the least multiple
pub multiple_by_divisor : (a b g : ℕ) → 0 < a → 0 < b → IsGreatestDivisor a b g → IsLeastMultipleOf a b (a / g * b)
multiple_by_divisor a b g some other h = go h.first h.second
  where
    some_factor : (n x y : ℕ) → 0 < n → n ≡ x * y → 0 < x
    some_factor n zero y some e = absurd (omega (arith, some, e))
    some_factor n (suc x) y some e = omega arith

    some_product : (x y : ℕ) → 0 < x → 0 < y → 0 < x * y
    some_product x y h k = grind arith

    least_of : (p m t : ℕ) → 0 < g → a ≡ g * p → g * m ≡ (a * b) * t → m ≡ (p * b) * t
    least_of p m t over e f = eq_of_mul-eq-mul_left g over m ((p * b) * t) (omega (arith, f, ap (λ x. (x * b) * t) e))

    go : Divides g a → Divides g b → IsLeastMultipleOf a b (a / g * b)
    go (p, e) (q, f) =
        let over : 0 < g = some_factor a g p some e in
        let share : ◌≡◌ {A = ℕ} (a / g) p = ap (λ x. x / g) e ∙ mul-div_cancel_left p over in
        let more : 0 < p = some_factor a p g some (omega (arith, e)) in
        rw share (record {
          over = some_product p b more other;
          first = (q, omega (arith, ap (λ x. p * x) f, ap (λ x. x * q) e));
          second = (p, omega arith);
          least = λ m one two.
              let wholes = h.greatest (a * b) m (two.0, omega (arith, ap (λ x. a * x) two.1)) (one.0, omega (arith, ap (λ x. b * x) one.1)) in
              (wholes.0, least_of p m wholes.0 over e wholes.1);
        })

pub multiple_with_one : (a b : ℕ) → 0 < a → b ≡ 1 → IsLeastMultipleOf a b a
multiple_with_one a b some e = record {
  over = some;
  first = (1, omega arith);
  second = (a, omega (arith, ap (λ x. x * a) e));
  least = λ m one other. one;
}

-- the least multiple is at most each that is over 0
pub at_least : (n m : ℕ) → 0 < m → Divides n m → n ≤ m
at_least n m some (zero, e) = absurd (omega (arith, some, e))
at_least n m some (suc k, e) = omega (arith, e)

-- what a product that is checked says of the least multiple
pub checked_some : (o : Option ℕ) (a b n : ℕ) → SomeIff o (n < 2 ^ 128) n → IsLeastMultipleOf a b n → IfSome o (IsLeastMultipleOf a b)
checked_some None a b n h least = tt
checked_some (Some x) a b n h least = subst (IsLeastMultipleOf a b) (sym h.1) least

pub checked_none : (o : Option ℕ) (a b n : ℕ) → SomeIff o (n < 2 ^ 128) n → IsLeastMultipleOf a b n → IfNone o ((m : ℕ) → 0 < m → Divides a m → Divides b m → 2 ^ 127 ≤ m)
checked_none None a b n h least = λ m some one other. wide m (at_least n m some (least.least m one other))
  where
    wide : (m : ℕ) → n ≤ m → 2 ^ 127 ≤ m
    wide m le = omega (arith, h, le)
checked_none (Some x) a b n h least = tt
