-- Weights are at least 1, also up to the limit.
use Rattle.std.proofs.Common.{◌≡◌, ◌⊎◌, inl, inr, ℕ, ◌+◌, ◌*◌, ◌<◌, ◌≤◌, ◌^◌, min, max, Bool, true, false, if◌then◌else◌, refl, sym, ◌∙◌, arith}
use Rattle.std.proofs.Math.Nat.{mul-le-mul}
use Rattle.term_model.specs.declared.symbols.Op.{Op}
use Rattle.term_model.specs.Terms.{Term, numeral, operation, Terms, no_terms, term}
use Rattle.rule_model.specs.LinearForms.{is_linear}
use Rattle.rule_model.specs.Weights.{weight, weight_sum, weight_product}
use Rattle.linear_forms.specs.Graphs.{AreSome}
use Rattle.linear_forms.specs.Infos.{limit_weight}

pub max_one : (n : ℕ) → 1 ≤ max n 1
max_one n = omega arith

pub min_below : (n : ℕ) → n < 2 ^ 127 → min n limit_weight ≡ n
min_below n h = omega (arith, h)

pub below_min : (n : ℕ) → min n limit_weight < 2 ^ 127 → n < 2 ^ 127
below_min n h = omega (arith, h)

mul_positive : (m n : ℕ) → 1 ≤ m → 1 ≤ n → 1 ≤ m * n
mul_positive m n h k = omega (arith, mul-le-mul h k)

mutual
  pub weight_positive : (t : Term) → 1 ≤ weight t
  weight_positive (numeral n) = max_one n
  weight_positive (operation Op.Plus ts) = max_one (weight_sum ts)
  weight_positive (operation Op.Minus ts) = max_one (weight_sum ts)
  weight_positive (operation Op.Times ts) = go (is_linear ts) (product_positive ts)
    where
      go : (b : Bool) → 1 ≤ weight_product ts → 1 ≤ (if b then weight_product ts else 1)
      go true h = h
      go false h = omega arith
  weight_positive t = omega arith

  pub product_positive : (ts : Terms) → 1 ≤ weight_product ts
  product_positive no_terms = omega arith
  product_positive (term t ts) = mul_positive (weight t) (weight_product ts) (weight_positive t) (product_positive ts)

pub sum_positive : (ts : Terms) → AreSome ts → 1 ≤ weight_sum ts
sum_positive no_terms h = absurd h
sum_positive (term t ts) h = omega (arith, weight_positive t)

-- factors are no wider than their product
pub left_narrow : (m n : ℕ) → 1 ≤ n → m * n < 2 ^ 127 → m < 2 ^ 127
left_narrow m n h k = omega (arith, mul-le-mul (same m) h, k)
  where
    same : (m : ℕ) → m ≤ m
    same m = omega arith

pub right_narrow : (m n : ℕ) → 1 ≤ m → m * n < 2 ^ 127 → n < 2 ^ 127
right_narrow m n h k = omega (arith, mul-le-mul h (same n), k)
  where
    same : (m : ℕ) → m ≤ m
    same m = omega arith

-- sums and products up to the limit
pub min_sum : (x y : ℕ) → min (min x limit_weight + min y limit_weight) limit_weight ≡ min (x + y) limit_weight
min_sum x y = omega arith

compare : (x y : ℕ) → (x < y) ⊎ (y ≤ x)
compare x y = grind arith

wide : (m : ℕ) → limit_weight ≤ m → min m limit_weight ≡ limit_weight
wide m h = omega (arith, h)

left_wide : (m n : ℕ) → limit_weight ≤ m → 1 ≤ n → limit_weight ≤ m * n
left_wide m n h k = omega (arith, mul-le-mul h k)

right_wide : (m n : ℕ) → 1 ≤ m → limit_weight ≤ n → limit_weight ≤ m * n
right_wide m n h k = omega (arith, mul-le-mul h k)

min_positive : (n : ℕ) → 1 ≤ n → 1 ≤ min n limit_weight
min_positive n h = omega (arith, h)

pub min_product : (x y : ℕ) → 1 ≤ x → 1 ≤ y → min (min x limit_weight * min y limit_weight) limit_weight ≡ min (x * y) limit_weight
min_product x y h k = go (compare x limit_weight) (compare y limit_weight)
  where
    go : (x < limit_weight) ⊎ (limit_weight ≤ x) → (y < limit_weight) ⊎ (limit_weight ≤ y) → min (min x limit_weight * min y limit_weight) limit_weight ≡ min (x * y) limit_weight
    go (inl a) (inl b) = rw (min_below x a, min_below y b) refl
    go (inr a) o =
        wide (min x limit_weight * min y limit_weight) (left_wide (min x limit_weight) (min y limit_weight) (omega (arith, a)) (min_positive y k))
        ∙ sym (wide (x * y) (left_wide x y a k))
    go (inl a) (inr b) =
        wide (min x limit_weight * min y limit_weight) (right_wide (min x limit_weight) (min y limit_weight) (min_positive x h) (omega (arith, b)))
        ∙ sym (wide (x * y) (right_wide x y h b))
