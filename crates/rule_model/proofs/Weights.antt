-- The constant and the coefficients of a linear form, in absolute value, add up to at most the term's weight.
use Rattle.std.proofs.Common.{◌≡◌, ◌+◌, ◌*◌, ◌≤◌, ℤ, pos, neg_ℤ, ◌+ℤ◌, ◌-ℤ◌, ◌*ℤ◌, unsigned_abs, List, [], ◌∷◌, Bool, true, false, if◌then◌else◌, refl, sym, ap, subst, arith}
use Rattle.std.proofs.Math.Nat.{mul-le-mul, mul_comm, mul-add}
use Rattle.std.proofs.Math.IntN.{*ℤ_comm}
use Rattle.std.proofs.lemmas.Int.{ints, unsigned_abs-mul}
use Rattle.std.proofs.lemmas.Bool.{or_parts}
use Rattle.term_model.specs.declared.symbols.Op.{Op}
use Rattle.term_model.specs.Operators.{from_left, difference}
use Rattle.term_model.specs.Terms.{Term, numeral, operation, Terms, no_terms, term}
use Rattle.rule_model.specs.LinearForms.{is_constant, is_linear, product, constant, constants, form_parts, product_part, one_at, coefficient, is_listed, AreDistinct}
use Rattle.rule_model.specs.TermTests.{term_eq}
use Rattle.rule_model.specs.Weights.{weight, weight_sum, weight_product, sizes}
use Rattle.rule_model.proofs.LinearForms.{summed, lessened, product_is}
use Rattle.rule_model.proofs.TermTests.{term_eq_decides}

sizes_added : (c d e : Term → ℤ) (us : List Term) → ((u : Term) → e u ≡ c u +ℤ d u) → sizes e us ≤ sizes c us + sizes d us
sizes_added c d e [] h = omega arith
sizes_added c d e (u ∷ us) h = omega (arith, ints, h u, sizes_added c d e us h)

sizes_turned : (c d : Term → ℤ) (us : List Term) → ((u : Term) → d u ≡ neg_ℤ (c u)) → sizes d us ≤ sizes c us
sizes_turned c d [] h = omega arith
sizes_turned c d (u ∷ us) h = omega (arith, ints, h u, sizes_turned c d us h)

sizes_scaled : (k : ℤ) (c d : Term → ℤ) (us : List Term) → ((u : Term) → d u ≡ k *ℤ c u) → sizes d us ≡ unsigned_abs k * sizes c us
sizes_scaled k c d [] h = omega arith
sizes_scaled k c d (u ∷ us) h = omega (arith, ap unsigned_abs (h u), unsigned_abs-mul k (c u), sizes_scaled k c d us h)

sizes_nothing : (c : Term → ℤ) (us : List Term) → ((u : Term) → c u ≡ pos 0) → sizes c us ≡ 0
sizes_nothing c [] h = refl
sizes_nothing c (u ∷ us) h = omega (arith, ints, h u, sizes_nothing c us h)

unlisted_size : (t : Term) (us : List Term) → is_listed us t ≡ false → sizes (λ u. one_at u t) us ≡ 0
unlisted_size t [] e = refl
unlisted_size t (u ∷ us) e =
    let parts_are = or_parts (term_eq t u) (is_listed us t) e in
    let here = ap (λ (b : Bool). unsigned_abs (if b then pos 1 else pos 0)) parts_are.0 in
    omega (arith, here, unlisted_size t us parts_are.1)

opaque_size : (t : Term) (us : List Term) → AreDistinct us → sizes (λ u. one_at u t) us ≤ 1
opaque_size t [] distinct = omega arith
opaque_size t (u ∷ us) distinct = go (term_eq t u) refl (opaque_size t us distinct.1)
  where
    go : (b : Bool) → term_eq t u ≡ b → sizes (λ x. one_at x t) us ≤ 1 → unsigned_abs (if b then pos 1 else pos 0) + sizes (λ x. one_at x t) us ≤ 1
    go true f more =
        let same = (term_eq_decides t u).0 f in
        let rest = unlisted_size t us (subst (λ x. is_listed us x ≡ false) (sym same) distinct.0) in omega (arith, rest)
    go false f more = omega (arith, more)

module _ (us : List Term) (distinct : AreDistinct us) where
  abbrev IsLight : Term → Type 0
  IsLight t = unsigned_abs (constant t) + sizes (coefficient t) us ≤ weight t

  abbrev AreLight : Terms → Type 0
  AreLight no_terms = Unit {0}
  AreLight (term t ts) = IsLight t × AreLight ts

  abbrev sum_coefficient : Terms → Term → ℤ
  sum_coefficient ts u = from_left ◌+ℤ◌ (pos 0) (form_parts (one_at u) ts)

  abbrev sum_constant : Terms → ℤ
  sum_constant ts = from_left ◌+ℤ◌ (pos 0) (constants ts)

  sums_light : (ts : Terms) → AreLight ts → unsigned_abs (sum_constant ts) + sizes (sum_coefficient ts) us ≤ weight_sum ts
  sums_light no_terms h = omega (arith, sizes_nothing (λ u. pos 0) us (λ u. refl))
  sums_light (term t ts) h =
      omega (
        arith,
        ints,
        h.0,
        sums_light ts h.1,
        summed (constant t) (constants ts),
        sizes_added (coefficient t) (sum_coefficient ts) (sum_coefficient (term t ts)) us (λ u. summed (coefficient t u) (form_parts (one_at u) ts)),
      )

  differences_light : (ts : Terms) → AreLight ts → unsigned_abs (difference (constants ts)) + sizes (λ u. difference (form_parts (one_at u) ts)) us ≤ weight_sum ts
  differences_light no_terms h = omega (arith, sizes_nothing (λ u. pos 0) us (λ u. refl))
  differences_light (term t no_terms) h =
      omega (arith, ints, h.0, sizes_turned (coefficient t) (λ u. difference (form_parts (one_at u) (term t no_terms))) us (λ u. refl))
  differences_light (term t (term s ts)) h =
      let rest = sums_light (term s ts) h.1 in
      let turned = sizes_turned (sum_coefficient (term s ts)) (λ u. neg_ℤ (sum_coefficient (term s ts) u)) us (λ u. refl) in
      let whole = sizes_added (coefficient t) (λ u. neg_ℤ (sum_coefficient (term s ts) u)) (λ u. difference (form_parts (one_at u) (term t (term s ts)))) us (λ u. omega (arith, ints, lessened (coefficient t u -ℤ coefficient s u) (form_parts (one_at u) ts), summed (coefficient s u) (form_parts (one_at u) ts))) in
      omega (arith, ints, lessened (constant t -ℤ constant s) (constants ts), summed (constant s) (constants ts), h.0, rest, turned, whole)

  -- products of constants, and with one factor more
  light_constant : (t : Term) → IsLight t → unsigned_abs (constant t) ≤ weight t
  light_constant t h = omega (arith, h)

  constants_light : (ts : Terms) → AreLight ts → unsigned_abs (product (constants ts)) ≤ weight_product ts
  constants_light no_terms h = omega arith
  constants_light (term t ts) h =
      omega (
        arith,
        ap unsigned_abs (product_is (constant t) (constants ts)),
        unsigned_abs-mul (constant t) (product (constants ts)),
        mul-le-mul (light_constant t h.0) (constants_light ts h.1),
      )

  products_light : (ts : Terms) → AreLight ts → unsigned_abs (product (constants ts)) + sizes (λ u. product_part (one_at u) ts) us ≤ weight_product ts
  products_light no_terms h = omega (arith, sizes_nothing (λ u. pos 0) us (λ u. refl))
  products_light (term t ts) h = go (is_constant t) (products_light ts h.1)
    where
      go : (b : Bool) → unsigned_abs (product (constants ts)) + sizes (λ u. product_part (one_at u) ts) us ≤ weight_product ts → unsigned_abs (product (constant t ∷ constants ts)) + sizes (λ u. if b then constant t *ℤ product_part (one_at u) ts else coefficient t u *ℤ product (constants ts)) us ≤ weight t * weight_product ts
      go true more =
          let scale = sizes_scaled (constant t) (λ u. product_part (one_at u) ts) (λ u. constant t *ℤ product_part (one_at u) ts) us (λ u. refl) in
          omega (
            arith,
            ap unsigned_abs (product_is (constant t) (constants ts)),
            unsigned_abs-mul (constant t) (product (constants ts)),
            scale,
            mul-add (unsigned_abs (constant t)) (unsigned_abs (product (constants ts))) (sizes (λ u. product_part (one_at u) ts) us),
            mul-le-mul (light_constant t h.0) more,
          )
      go false more =
          let k = product (constants ts) in
          let scale = sizes_scaled k (coefficient t) (λ u. coefficient t u *ℤ k) us (λ u. *ℤ_comm (coefficient t u) k) in
          omega (
            arith,
            ap unsigned_abs (product_is (constant t) (constants ts)),
            unsigned_abs-mul (constant t) k,
            scale,
            mul-add (unsigned_abs k) (unsigned_abs (constant t)) (sizes (coefficient t) us),
            mul-le-mul h.0 (constants_light ts h.1),
            mul_comm (unsigned_abs (constant t)) (unsigned_abs k),
            mul_comm (unsigned_abs (constant t) + sizes (coefficient t) us) (unsigned_abs k),
          )

  times_light : (ts : Terms) → AreLight ts → IsLight (operation Op.Times ts)
  times_light ts h = go (is_linear ts) refl
    where
      go : (b : Bool) → is_linear ts ≡ b → unsigned_abs (if b then product (constants ts) else pos 0) + sizes (λ u. if b then product_part (one_at u) ts else one_at u (operation Op.Times ts)) us ≤ (if b then weight_product ts else 1)
      go true e = products_light ts h
      go false e = omega (arith, opaque_size (operation Op.Times ts) us distinct)

  mutual
    pub form_is_light : (t : Term) → IsLight t
    form_is_light (numeral n) = omega (arith, sizes_nothing (λ u. pos 0) us (λ u. refl))
    form_is_light (operation Op.Plus ts) = omega (arith, sums_light ts (forms_are_light ts))
    form_is_light (operation Op.Minus ts) = omega (arith, differences_light ts (forms_are_light ts))
    form_is_light (operation Op.Times ts) = times_light ts (forms_are_light ts)
    form_is_light t = omega (arith, opaque_size t us distinct)

    forms_are_light : (ts : Terms) → AreLight ts
    forms_are_light no_terms = tt
    forms_are_light (term t ts) = (form_is_light t, forms_are_light ts)
