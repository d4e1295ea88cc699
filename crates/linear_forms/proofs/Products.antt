-- Lists of terms as sums and as products, by their first term, and what is known of two lists, one behind the other.
use Rattle.std.proofs.Common.{◌≡◌, ℕ, ◌+◌, ◌*◌, ◌<◌, ◌≤◌, ◌^◌, min, ℤ, pos, ◌+ℤ◌, ◌-ℤ◌, ◌*ℤ◌, unsigned_abs, Bool, true, false, nat_lt, if◌then◌else◌, refl, sym, ap, ◌∙◌, subst, arith}
use Rattle.std.proofs.Math.Nat.{mul-le-mul, mul_comm, mul_assoc as nat_mul_assoc}
use Rattle.std.proofs.Math.IntN.{*ℤ_comm}
use Rattle.std.proofs.lemmas.Int.{ints, unsigned_abs-mul}
use Rattle.std.proofs.lemmas.Bool.Decides.{nat_tests}
use Rattle.term_model.specs.declared.symbols.Op.{Op}
use Rattle.term_model.specs.Terms.{Term, operation, Terms, no_terms, term}
use Rattle.rule_model.specs.LinearForms.{is_constant, others, product, constant, constants, part, form_parts}
use Rattle.rule_model.specs.Weights.{weight, weight_sum, weight_product}
use Rattle.rule_model.proofs.LinearForms.{summed, lessened, product_is}
use Rattle.rule_model.proofs.Ring.{mul_assoc, one-mul}
use Rattle.linear_forms.specs.declared.nodes.Part.{Part}
use Rattle.linear_forms.specs.declared.nodes.Factors.{Factors}
use Rattle.linear_forms.specs.declared.nodes.Factors.TheVariants.{Constants, Single, Many}
use Rattle.linear_forms.specs.declared.nodes.Info.{Info}
use Rattle.linear_forms.specs.Graphs.{AreSome, AreConstants, HasSingle, AreFactors, IsInfo}
use Rattle.linear_forms.specs.Infos.{limit_weight, joined_factors, without_number, joined_info}
use Rattle.linear_forms.specs.Readings.{FormReading, for_constants, for_parts, unit_of, read, sum_in, product_in}
use Rattle.linear_forms.proofs.Weighing.{weight_positive, product_positive, left_narrow, right_narrow, min_sum, min_product}

pub sum_first : (reading : FormReading) (t : Term) (ts : Terms) → sum_in reading (term t ts) ≡ read reading t +ℤ sum_in reading ts
sum_first for_constants t ts = summed (constant t) (constants ts)
sum_first (for_parts w) t ts = summed (part w t) (form_parts w ts)

pub sum_one : (reading : FormReading) (t : Term) → sum_in reading (term t no_terms) ≡ read reading t
sum_one for_constants t = refl
sum_one (for_parts w) t = refl

pub difference_first : (reading : FormReading) (t : Term) (ts : Terms) → AreSome ts → read reading (operation Op.Minus (term t ts)) ≡ read reading t -ℤ sum_in reading ts
difference_first reading t no_terms h = absurd h
difference_first for_constants t (term s ts) h = omega (arith, ints, lessened (constant t -ℤ constant s) (constants ts), summed (constant s) (constants ts))
difference_first (for_parts w) t (term s ts) h = omega (arith, ints, lessened (part w t -ℤ part w s) (form_parts w ts), summed (part w s) (form_parts w ts))

pub product_constant : (reading : FormReading) (t : Term) (ts : Terms) → is_constant t ≡ true → product_in reading (term t ts) ≡ constant t *ℤ product_in reading ts
product_constant for_constants t ts e = product_is (constant t) (constants ts)
product_constant (for_parts w) t ts e = rw e refl

pub product_other : (reading : FormReading) (t : Term) (ts : Terms) → is_constant t ≡ false → product_in reading (term t ts) ≡ read reading t *ℤ product (constants ts)
product_other for_constants t ts e = product_is (constant t) (constants ts)
product_other (for_parts w) t ts e = rw e refl

pub one_constant : (t : Term) → others (term t no_terms) ≡ 0 → is_constant t ≡ true
one_constant t e = go (is_constant t) e
  where
    go : (b : Bool) → (if b then 0 else 1) + 0 ≡ 0 → b ≡ true
    go true e = refl
    go false e = absurd (omega (arith, e))

pub one_other : (t : Term) → 1 ≤ others (term t no_terms) → is_constant t ≡ false
one_other t e = go (is_constant t) e
  where
    go : (b : Bool) → 1 ≤ (if b then 0 else 1) + 0 → b ≡ false
    go true e = absurd (omega (arith, e))
    go false e = refl

pub others_first : (t : Term) (ts : Terms) → others (term t ts) ≡ others (term t no_terms) + others ts
others_first t ts = omega arith

few : (t : Term) → others (term t no_terms) ≤ 1
few t = go (is_constant t)
  where
    go : (b : Bool) → (if b then 0 else 1) + 0 ≤ 1
    go true = omega arith
    go false = omega arith

size_product : (a b : ℤ) (m n : ℕ) → unsigned_abs a ≤ m → unsigned_abs b ≤ n → unsigned_abs (a *ℤ b) ≤ m * n
size_product a b m n h k = omega (arith, unsigned_abs-mul a b, mul-le-mul h k)

-- two lists, the first of one term
module _ (at : ℕ → Terms) (k : ℕ) (t : Term) (ts : Terms) where
  abbrev one : Terms
  one = term t no_terms

  abbrev whole : Terms
  whole = term t ts

  one_weight : weight_product one ≡ weight t
  one_weight = omega arith

  first_narrow : weight_product whole < 2 ^ 127 → weight_product one < 2 ^ 127
  first_narrow h = omega (arith, left_narrow (weight t) (weight_product ts) (product_positive ts) h)

  rest_narrow : weight_product whole < 2 ^ 127 → weight_product ts < 2 ^ 127
  rest_narrow h = right_narrow (weight t) (weight_product ts) (weight_positive t) h

  first_is : (a : ℤ) → AreConstants one a → weight_product whole < 2 ^ 127 → constant t ≡ a
  first_is a h narrow = omega (arith, ints, h.counts (first_narrow narrow) for_constants, *ℤ_comm a (pos 1), one-mul a)

  rest_is : (b : ℤ) → AreConstants ts b → weight_product whole < 2 ^ 127 → product (constants ts) ≡ b
  rest_is b h narrow = omega (arith, ints, h.counts (rest_narrow narrow) for_constants, *ℤ_comm b (pos 1), one-mul b)

  both_constants : (a b : ℤ) → AreConstants one a → AreConstants ts b → AreConstants whole (a *ℤ b)
  both_constants a b f g = record {
    others_are = omega (arith, others_first t ts, f.others_are, g.others_are);
    counts = λ narrow reading.
        product_constant reading t ts (one_constant t f.others_are)
        ∙ rw (first_is a f narrow, g.counts (rest_narrow narrow) reading) (sym (mul_assoc a b (unit_of reading)));
    weighs = λ narrow. omega (arith, size_product a b (weight t) (weight_product ts) (omega (arith, f.weighs (first_narrow narrow))) (g.weighs (rest_narrow narrow)));
  }

  constant_single : (a : ℤ) (p : Part) (l : ℕ) → l ≤ k → AreConstants one a → HasSingle at l ts p → HasSingle at k whole (record { times = a *ℤ p.times; node = p.node })
  constant_single a p l low f g = record {
    others_are = omega (arith, others_first t ts, f.others_are, g.others_are);
    low = omega (arith, g.low, low);
    counts = λ narrow reading.
        product_constant reading t ts (one_constant t f.others_are)
        ∙ rw (first_is a f narrow, g.counts (rest_narrow narrow) reading) (sym (mul_assoc a p.times (sum_in reading (at p.node))));
    weighs = λ narrow.
        omega (
          arith,
          unsigned_abs-mul a p.times,
          nat_mul_assoc (unsigned_abs a) (unsigned_abs p.times) (weight_sum (at p.node)),
          ap (λ n. n * weight_sum (at p.node)) (unsigned_abs-mul a p.times),
          mul-le-mul (first_size a f narrow) (g.weighs (rest_narrow narrow)),
        );
  }
    where
      first_size : (a : ℤ) → AreConstants one a → weight_product whole < 2 ^ 127 → unsigned_abs a ≤ weight t
      first_size a f narrow = omega (arith, f.weighs (first_narrow narrow))

  single_constant : (p : Part) (b : ℤ) (l : ℕ) → l ≤ k → HasSingle at l one p → AreConstants ts b → HasSingle at k whole (record { times = b *ℤ p.times; node = p.node })
  single_constant p b l low f g = record {
    others_are = omega (arith, others_first t ts, f.others_are, g.others_are);
    low = omega (arith, f.low, low);
    counts = λ narrow reading. counted narrow reading;
    weighs = λ narrow.
        omega (
          arith,
          nat_mul_assoc (unsigned_abs b) (unsigned_abs p.times) (weight_sum (at p.node)),
          ap (λ n. n * weight_sum (at p.node)) (unsigned_abs-mul b p.times),
          mul-le-mul (g.weighs (rest_narrow narrow)) (first_size narrow),
          mul_comm (weight_product ts) (weight t),
        );
  }
    where
      other : is_constant t ≡ false
      other = one_other t (omega (arith, f.others_are))

      first_size : weight_product whole < 2 ^ 127 → unsigned_abs p.times * weight_sum (at p.node) ≤ weight t
      first_size narrow = omega (arith, f.weighs (first_narrow narrow))

      read_is : weight_product whole < 2 ^ 127 → (reading : FormReading) → read reading t ≡ p.times *ℤ sum_in reading (at p.node)
      read_is narrow reading =
          omega (arith, ints, product_other reading t no_terms other, f.counts (first_narrow narrow) reading, *ℤ_comm (read reading t) (pos 1), one-mul (read reading t))

      counted : weight_product whole < 2 ^ 127 → (reading : FormReading) → product_in reading whole ≡ (b *ℤ p.times) *ℤ sum_in reading (at p.node)
      counted narrow reading =
          product_other reading t ts other
          ∙ rw (rest_is b g narrow, read_is narrow reading) (omega (arith, ints, mul_assoc b p.times (sum_in reading (at p.node)), *ℤ_comm (p.times *ℤ sum_in reading (at p.node)) b))

  narrow_factors : (f : Factors) → (weight_product whole < 2 ^ 127 → ⊥) → AreFactors at k whole f → AreFactors at k whole (without_number f)
  narrow_factors (Constants a) never h = record { others_are = h.others_are; counts = λ narrow. absurd (never narrow); weighs = λ narrow. absurd (never narrow) }
  narrow_factors (Single p) never h = record { others_are = h.others_are; low = h.low; counts = λ narrow. absurd (never narrow); weighs = λ narrow. absurd (never narrow) }
  narrow_factors Many never h = h

  factors_joined : (f g : Factors) (m n : ℕ) → m ≤ k → n ≤ k → AreFactors at m one f → AreFactors at n ts g → AreFactors at k whole (joined_factors f g)
  factors_joined (Constants a) (Constants b) m n h j x y = both_constants a b x y
  factors_joined (Constants a) (Single p) m n h j x y = constant_single a p n j x y
  factors_joined (Single p) (Constants b) m n h j x y = single_constant p b m h x y
  factors_joined (Single p) (Single q) m n h j x y = omega (arith, others_first t ts, x.others_are, y.others_are)
  factors_joined (Constants a) Many m n h j x y = omega (arith, others_first t ts, y)
  factors_joined (Single p) Many m n h j x y = omega (arith, others_first t ts, y)
  factors_joined Many g m n h j x y = absurd (omega (arith, few t, x))

  pub info_joined : (a b : Info) (m n : ℕ) → m ≤ k → n ≤ k → IsInfo at m one a → IsInfo at n ts b → IsInfo at k whole (joined_info a b)
  info_joined a b m n h j x y = record {
    sum_is = rw (x.sum_is, y.sum_is) (min_sum (weight t + 0) (weight_sum ts) ∙ ap (λ z. min z limit_weight) sums);
    product_is = rw (x.product_is, y.product_is) products;
    factors_are = go (nat_lt (min (a.product * b.product) limit_weight) limit_weight) refl;
  }
    where
      sums : (weight t + 0) + weight_sum ts ≡ weight t + weight_sum ts
      sums = omega arith

      products : min (min (weight t * 1) limit_weight * min (weight_product ts) limit_weight) limit_weight ≡ min (weight t * weight_product ts) limit_weight
      products =
          min_product (weight t * 1) (weight_product ts) (omega (arith, weight_positive t)) (product_positive ts)
          ∙ ap (λ z. min (z * weight_product ts) limit_weight) one_times
        where
          one_times : weight t * 1 ≡ weight t
          one_times = omega arith

      all : AreFactors at k whole (joined_factors a.factors b.factors)
      all = factors_joined a.factors b.factors m n h j x.factors_are y.factors_are

      wide : nat_lt (min (a.product * b.product) limit_weight) limit_weight ≡ false → weight_product whole < 2 ^ 127 → ⊥
      wide e narrow =
          let f : nat_lt (min (weight t * weight_product ts) limit_weight) limit_weight ≡ false =
          subst (λ z. nat_lt z limit_weight ≡ false) (rw (x.product_is, y.product_is) products) e in
          grind (arith, nat_tests)

      go : (c : Bool) → nat_lt (min (a.product * b.product) limit_weight) limit_weight ≡ c → AreFactors at k whole (if c then joined_factors a.factors b.factors else without_number (joined_factors a.factors b.factors))
      go true e = all
      go false e = narrow_factors (joined_factors a.factors b.factors) (wide e) all
