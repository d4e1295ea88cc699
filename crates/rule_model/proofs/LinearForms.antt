-- The value of a term is that of its linear form, and what is left of a form is a sum over its opaque terms.
use Rattle.std.proofs.Common.{◌≡◌, ◌+◌, ◌≤◌, ℕ, ℤ, pos, neg_ℤ, ◌+ℤ◌, ◌-ℤ◌, ◌*ℤ◌, List, [], ◌∷◌, ◌++◌, map, fold, Bool, true, false, ◌||◌, if◌then◌else◌, refl, sym, ap, ◌∙◌, subst, arith}
use Rattle.std.specs.List.{AllByRecursion}
use Rattle.std.proofs.Math.IntN.{zero-*ℤ, *ℤ_comm}
use Rattle.std.proofs.lemmas.Int.{ints}
use Rattle.std.proofs.lemmas.Bool.{or_parts}
use Rattle.term_model.specs.declared.symbols.Op.{Op}
use Rattle.term_model.specs.Interpretations.{Interpretation}
use Rattle.term_model.specs.Meaning.{Valuation, value, values}
use Rattle.term_model.specs.Operators.{from_left, difference}
use Rattle.term_model.specs.Terms.{Term, numeral, operation, Terms, no_terms, term}
use Rattle.term_model.specs.Values.{as_whole}
use Rattle.term_model.proofs.Arities.{nat_le_decides}
use Rattle.rule_model.specs.LinearForms.{is_constant, others, is_linear, product, constant, constants, part, form_parts, product_part, one_at, coefficient, opaque_terms, opaque_among, HaveOneForm, dot, is_listed, AreDistinct, Covers}
use Rattle.rule_model.specs.TermTests.{term_eq}
use Rattle.rule_model.proofs.Ring.{mul-add, add-mul, mul_assoc, one-mul, mul-neg}
use Rattle.rule_model.proofs.TermTests.{term_eq_decides}

-- lists of sums: the first one's items are the sums of the two others'
abbrev AreSums : List ℤ → List ℤ → List ℤ → Type 0
AreSums [] [] [] = Unit {0}
AreSums (v ∷ vs) (c ∷ cs) (p ∷ ps) = (v ≡ c +ℤ p) × AreSums vs cs ps
AreSums _ _ _ = ⊥

added : (vs cs ps : List ℤ) (v c p : ℤ) → v ≡ c +ℤ p → AreSums vs cs ps → fold ◌+ℤ◌ v vs ≡ fold ◌+ℤ◌ c cs +ℤ fold ◌+ℤ◌ p ps
added [] [] [] v c p e h = e
added (w ∷ vs) (d ∷ cs) (q ∷ ps) v c p e h = added vs cs ps (v +ℤ w) (c +ℤ d) (p +ℤ q) (omega (arith, ints, e, h.0)) h.1
added [] [] (q ∷ ps) v c p e h = absurd h
added [] (d ∷ cs) ps v c p e h = absurd h
added (w ∷ vs) [] ps v c p e h = absurd h
added (w ∷ vs) (d ∷ cs) [] v c p e h = absurd h

subtracted : (vs cs ps : List ℤ) (v c p : ℤ) → v ≡ c +ℤ p → AreSums vs cs ps → fold ◌-ℤ◌ v vs ≡ fold ◌-ℤ◌ c cs +ℤ fold ◌-ℤ◌ p ps
subtracted [] [] [] v c p e h = e
subtracted (w ∷ vs) (d ∷ cs) (q ∷ ps) v c p e h = subtracted vs cs ps (v -ℤ w) (c -ℤ d) (p -ℤ q) (omega (arith, ints, e, h.0)) h.1
subtracted [] [] (q ∷ ps) v c p e h = absurd h
subtracted [] (d ∷ cs) ps v c p e h = absurd h
subtracted (w ∷ vs) [] ps v c p e h = absurd h
subtracted (w ∷ vs) (d ∷ cs) [] v c p e h = absurd h

sum_of_sums : (vs cs ps : List ℤ) → AreSums vs cs ps → from_left ◌+ℤ◌ (pos 0) vs ≡ from_left ◌+ℤ◌ (pos 0) cs +ℤ from_left ◌+ℤ◌ (pos 0) ps
sum_of_sums [] [] [] h = omega (arith, ints)
sum_of_sums (v ∷ vs) (c ∷ cs) (p ∷ ps) h = added vs cs ps v c p h.0 h.1
sum_of_sums [] [] (q ∷ ps) h = absurd h
sum_of_sums [] (d ∷ cs) ps h = absurd h
sum_of_sums (w ∷ vs) [] ps h = absurd h
sum_of_sums (w ∷ vs) (d ∷ cs) [] h = absurd h

difference_of_sums : (vs cs ps : List ℤ) → AreSums vs cs ps → difference vs ≡ difference cs +ℤ difference ps
difference_of_sums [] [] [] h = omega (arith, ints)
difference_of_sums (v ∷ []) (c ∷ []) (p ∷ []) h = omega (arith, ints, h.0)
difference_of_sums (v ∷ w ∷ vs) (c ∷ d ∷ cs) (p ∷ q ∷ ps) h =
    subtracted vs cs ps (v -ℤ w) (c -ℤ d) (p -ℤ q) (omega (arith, ints, h.0, h.1.0)) h.1.1
difference_of_sums [] [] (q ∷ ps) h = absurd h
difference_of_sums [] (d ∷ cs) ps h = absurd h
difference_of_sums (w ∷ vs) [] ps h = absurd h
difference_of_sums (w ∷ vs) (d ∷ cs) [] h = absurd h
difference_of_sums (v ∷ []) (c ∷ []) (p ∷ q ∷ ps) h = absurd h.1
difference_of_sums (v ∷ []) (c ∷ d ∷ cs) (p ∷ ps) h = absurd h.1
difference_of_sums (v ∷ w ∷ vs) (c ∷ []) (p ∷ ps) h = absurd h.1
difference_of_sums (v ∷ w ∷ vs) (c ∷ d ∷ cs) (p ∷ []) h = absurd h.1

-- products, by their first factor
multiplied : (a : ℤ) (rest : List ℤ) → fold ◌*ℤ◌ a rest ≡ a *ℤ product rest
multiplied a [] = omega (arith, ints, *ℤ_comm a (pos 1), one-mul a)
multiplied a (b ∷ bs) =
    let first = multiplied (a *ℤ b) bs in
    let second = ap (λ x. a *ℤ x) (multiplied b bs) in
    omega (arith, ints, first, second, mul_assoc a b (product bs))

pub product_is : (a : ℤ) (rest : List ℤ) → product (a ∷ rest) ≡ a *ℤ product rest
product_is a rest = multiplied a rest

-- of a constant nothing is left
pub constant_part : (w : Term → ℤ) (t : Term) → is_constant t ≡ true → part w t ≡ pos 0
constant_part w (numeral n) e = refl
constant_part w (operation Op.Minus (term (numeral n) no_terms)) e = refl
constant_part w t e = absurd cc

pub no_others : (t : Term) (ts : Terms) → others (term t ts) ≡ 0 → (is_constant t ≡ true) × (others ts ≡ 0)
no_others t ts e = go (is_constant t) (others ts) e
  where
    go : (b : Bool) (n : ℕ) → (if b then 0 else 1) + n ≡ 0 → (b ≡ true) × (n ≡ 0)
    go true n e = (refl, omega (arith, e))
    go false n e = absurd (omega (arith, e))

pub one_other : (t : Term) (ts : Terms) → is_constant t ≡ false → others (term t ts) ≤ 1 → others ts ≡ 0
one_other t ts e h = go (is_constant t) (others ts) e h
  where
    go : (b : Bool) (n : ℕ) → b ≡ false → (if b then 0 else 1) + n ≤ 1 → n ≡ 0
    go true n e h = absurd cc
    go false n e h = omega (arith, h)

pub rest_linear : (t : Term) (ts : Terms) → others (term t ts) ≤ 1 → others ts ≤ 1
rest_linear t ts h = go (is_constant t) (others ts) h
  where
    go : (b : Bool) (n : ℕ) → (if b then 0 else 1) + n ≤ 1 → n ≤ 1
    go true n h = omega (arith, h)
    go false n h = omega (arith, h)

module _ (I : Interpretation) (r : Valuation) where
  abbrev number : Term → ℤ
  number t = as_whole (value I r t)

  abbrev numbers : Terms → List ℤ
  numbers ts = map as_whole (values I r ts)

  abbrev IsForm : Term → Type 0
  IsForm t = number t ≡ constant t +ℤ part number t

  abbrev AreForms : Terms → Type 0
  AreForms no_terms = Unit {0}
  AreForms (term t ts) = IsForm t × AreForms ts

  are_sums : (ts : Terms) → AreForms ts → AreSums (numbers ts) (constants ts) (form_parts number ts)
  are_sums no_terms h = tt
  are_sums (term t ts) h = (h.0, are_sums ts h.1)

  constants_multiplied : (ts : Terms) → AreForms ts → others ts ≡ 0 → product (numbers ts) ≡ product (constants ts)
  constants_multiplied no_terms h e = refl
  constants_multiplied (term t ts) h e =
      let parts_are = no_others t ts e in
      let here : ◌≡◌ {A = ℤ} (number t) (constant t) = omega (arith, ints, h.0, constant_part number t parts_are.0) in
      let rest = constants_multiplied ts h.1 parts_are.1 in
      product_is (number t) (numbers ts) ∙ rw (here, rest) (sym (product_is (constant t) (constants ts)))

  form_multiplied : (ts : Terms) → AreForms ts → others ts ≤ 1 → product (numbers ts) ≡ product (constants ts) +ℤ product_part number ts
  form_multiplied no_terms h few = omega (arith, ints)
  form_multiplied (term t ts) h few = go (is_constant t) refl (form_multiplied ts h.1 (rest_linear t ts few))
    where
      go : (b : Bool) → is_constant t ≡ b → product (numbers ts) ≡ product (constants ts) +ℤ product_part number ts → product (number t ∷ numbers ts) ≡ product (constant t ∷ constants ts) +ℤ (if b then constant t *ℤ product_part number ts else part number t *ℤ product (constants ts))
      go true e more =
          let here : ◌≡◌ {A = ℤ} (number t) (constant t) = omega (arith, ints, h.0, constant_part number t e) in
          let rest = ap (λ x. constant t *ℤ x) more in
          let first = product_is (number t) (numbers ts) in
          let moved = ap (λ x. x *ℤ product (numbers ts)) here in
          omega (arith, ints, first, moved, rest, product_is (constant t) (constants ts), mul-add (constant t) (product (constants ts)) (product_part number ts))
      go false e more =
          let rest = ap (λ x. number t *ℤ x) (constants_multiplied ts h.1 (one_other t ts e few)) in
          let moved = ap (λ x. x *ℤ product (constants ts)) h.0 in
          omega (arith, ints, product_is (number t) (numbers ts), rest, moved, product_is (constant t) (constants ts), add-mul (constant t) (part number t) (product (constants ts)))

  times_form : (ts : Terms) → AreForms ts → IsForm (operation Op.Times ts)
  times_form ts h = go (is_linear ts) refl
    where
      go : (b : Bool) → is_linear ts ≡ b → product (numbers ts) ≡ (if b then product (constants ts) else pos 0) +ℤ (if b then product_part number ts else product (numbers ts))
      go true e = form_multiplied ts h ((nat_le_decides (others ts) 1).0 e)
      go false e = omega (arith, ints)

  mutual
    pub value_is_form : (t : Term) → IsForm t
    value_is_form (operation Op.Plus ts) = sum_of_sums _ _ _ (are_sums ts (values_are_forms ts))
    value_is_form (operation Op.Minus ts) = difference_of_sums _ _ _ (are_sums ts (values_are_forms ts))
    value_is_form (operation Op.Times ts) = times_form ts (values_are_forms ts)
    value_is_form t = omega (arith, ints)

    values_are_forms : (ts : Terms) → AreForms ts
    values_are_forms no_terms = tt
    values_are_forms (term t ts) = (value_is_form t, values_are_forms ts)

-- sums over lists of opaque terms
pub dot_added : (c d e v : Term → ℤ) (us : List Term) → ((u : Term) → e u ≡ c u +ℤ d u) → dot e v us ≡ dot c v us +ℤ dot d v us
dot_added c d e v [] h = omega (arith, ints)
dot_added c d e v (u ∷ us) h =
    omega (arith, ints, dot_added c d e v us h, ap (λ x. x *ℤ v u) (h u), add-mul (c u) (d u) (v u))

pub dot_turned : (c d v : Term → ℤ) (us : List Term) → ((u : Term) → d u ≡ neg_ℤ (c u)) → dot d v us ≡ neg_ℤ (dot c v us)
dot_turned c d v [] h = omega (arith, ints)
dot_turned c d v (u ∷ us) h =
    omega (arith, ints, dot_turned c d v us h, ap (λ x. x *ℤ v u) (h u), *ℤ_comm (neg_ℤ (c u)) (v u), *ℤ_comm (c u) (v u), mul-neg (v u) (c u))

pub dot_scaled : (k : ℤ) (c d v : Term → ℤ) (us : List Term) → ((u : Term) → d u ≡ k *ℤ c u) → dot d v us ≡ k *ℤ dot c v us
dot_scaled k c d v [] h = omega (arith, ints, *ℤ_comm k (pos 0), zero-*ℤ k)
dot_scaled k c d v (u ∷ us) h =
    omega (arith, ints, dot_scaled k c d v us h, ap (λ x. x *ℤ v u) (h u), mul_assoc k (c u) (v u), mul-add k (c u *ℤ v u) (dot c v us))

pub dot_nothing : (c v : Term → ℤ) (us : List Term) → ((u : Term) → c u ≡ pos 0) → dot c v us ≡ pos 0
dot_nothing c v [] h = refl
dot_nothing c v (u ∷ us) h = omega (arith, ints, dot_nothing c v us h, ap (λ x. x *ℤ v u) (h u), zero-*ℤ (v u))

dot_unlisted : (t : Term) (v : Term → ℤ) (us : List Term) → is_listed us t ≡ false → dot (λ u. one_at u t) v us ≡ pos 0
dot_unlisted t v [] e = refl
dot_unlisted t v (u ∷ us) e =
    let parts_are = or_parts (term_eq t u) (is_listed us t) e in
    let here = ap (λ (b : Bool). (if b then pos 1 else pos 0) *ℤ v u) parts_are.0 in
    omega (arith, ints, here, zero-*ℤ (v u), dot_unlisted t v us parts_are.1)

-- a listed term counts by its own value alone
dot_listed : (t : Term) (v : Term → ℤ) (us : List Term) → AreDistinct us → is_listed us t ≡ true → dot (λ u. one_at u t) v us ≡ v t
dot_listed t v [] distinct e = absurd cc
dot_listed t v (u ∷ us) distinct e = go (term_eq t u) refl (λ f. dot_listed t v us distinct.1 f)
  where
    go : (b : Bool) → term_eq t u ≡ b → (is_listed us t ≡ true → dot (λ x. one_at x t) v us ≡ v t) → (if b then pos 1 else pos 0) *ℤ v u +ℤ dot (λ x. one_at x t) v us ≡ v t
    go true f more =
        let same = (term_eq_decides t u).0 f in
        let rest = dot_unlisted t v us (subst (λ x. is_listed us x ≡ false) (sym same) distinct.0) in
        omega (arith, ints, one-mul (v u), rest, ap v same)
    go false f more =
        let later : is_listed us t ≡ true = subst (λ (b : Bool). (b || is_listed us t) ≡ true) f e in
        omega (arith, ints, zero-*ℤ (v u), more later)

dot_same : (c d v : Term → ℤ) (us : List Term) → ((u : Term) → c u ≡ d u) → dot c v us ≡ dot d v us
dot_same c d v [] h = refl
dot_same c d v (u ∷ us) h = omega (arith, ints, ap (λ x. x *ℤ v u) (h u), dot_same c d v us h)

-- sums and differences by their first item
pub summed : (a : ℤ) (rest : List ℤ) → fold ◌+ℤ◌ a rest ≡ a +ℤ from_left ◌+ℤ◌ (pos 0) rest
summed a [] = omega (arith, ints)
summed a (b ∷ bs) = omega (arith, ints, summed (a +ℤ b) bs, summed b bs)

pub lessened : (a : ℤ) (rest : List ℤ) → fold ◌-ℤ◌ a rest ≡ a -ℤ from_left ◌+ℤ◌ (pos 0) rest
lessened a [] = omega (arith, ints)
lessened a (b ∷ bs) = omega (arith, ints, lessened (a -ℤ b) bs, summed b bs)

pub all_split : {X : Type 0} (P : X → Type 0) (xs ys : List X) → AllByRecursion P (xs ++ ys) → AllByRecursion P xs × AllByRecursion P ys
all_split P [] ys h = (tt, h)
all_split P (x ∷ xs) ys h = let rest = all_split P xs ys h.1 in ((h.0, rest.0), rest.1)

module _ (w : Term → ℤ) (us : List Term) (distinct : AreDistinct us) where
  abbrev IsDot : Term → Type 0
  IsDot t = part w t ≡ dot (coefficient t) w us

  abbrev AreDots : Terms → Type 0
  AreDots no_terms = Unit {0}
  AreDots (term t ts) = IsDot t × AreDots ts

  abbrev CoversAll : Terms → Type 0
  CoversAll ts = AllByRecursion (λ u. is_listed us u ≡ true) (opaque_among ts)

  abbrev sum_of : (Term → ℤ) → Terms → ℤ
  sum_of v ts = from_left ◌+ℤ◌ (pos 0) (form_parts v ts)

  sums_dot : (ts : Terms) → AreDots ts → sum_of w ts ≡ dot (λ u. sum_of (one_at u) ts) w us
  sums_dot no_terms h = sym (dot_nothing (λ u. pos 0) w us (λ u. refl))
  sums_dot (term t ts) h =
      omega (
        arith,
        ints,
        summed (part w t) (form_parts w ts),
        h.0,
        sums_dot ts h.1,
        dot_added (coefficient t) (λ u. sum_of (one_at u) ts) (λ u. sum_of (one_at u) (term t ts)) w us (λ u. summed (coefficient t u) (form_parts (one_at u) ts)),
      )

  differences_dot : (ts : Terms) → AreDots ts → difference (form_parts w ts) ≡ dot (λ u. difference (form_parts (one_at u) ts)) w us
  differences_dot no_terms h = sym (dot_nothing (λ u. pos 0) w us (λ u. refl))
  differences_dot (term t no_terms) h =
      omega (arith, ints, h.0, dot_turned (coefficient t) (λ u. difference (form_parts (one_at u) (term t no_terms))) w us (λ u. refl))
  differences_dot (term t (term s ts)) h =
      let rest = sums_dot (term s ts) h.1 in
      let turned = dot_turned (λ u. sum_of (one_at u) (term s ts)) (λ u. neg_ℤ (sum_of (one_at u) (term s ts))) w us (λ u. refl) in
      let whole = dot_added (coefficient t) (λ u. neg_ℤ (sum_of (one_at u) (term s ts))) (λ u. difference (form_parts (one_at u) (term t (term s ts)))) w us (λ u. omega (arith, ints, lessened (coefficient t u -ℤ coefficient s u) (form_parts (one_at u) ts), summed (coefficient s u) (form_parts (one_at u) ts))) in
      omega (arith, ints, lessened (part w t -ℤ part w s) (form_parts w ts), summed (part w s) (form_parts w ts), h.0, rest, turned, whole)

  products_dot : (ts : Terms) → AreDots ts → product_part w ts ≡ dot (λ u. product_part (one_at u) ts) w us
  products_dot no_terms h = sym (dot_nothing (λ u. pos 0) w us (λ u. refl))
  products_dot (term t ts) h = go (is_constant t) (products_dot ts h.1)
    where
      go : (b : Bool) → product_part w ts ≡ dot (λ u. product_part (one_at u) ts) w us → (if b then constant t *ℤ product_part w ts else part w t *ℤ product (constants ts)) ≡ dot (λ u. if b then constant t *ℤ product_part (one_at u) ts else coefficient t u *ℤ product (constants ts)) w us
      go true more =
          omega (
            arith,
            ints,
            ap (λ x. constant t *ℤ x) more,
            dot_scaled (constant t) (λ u. product_part (one_at u) ts) (λ u. constant t *ℤ product_part (one_at u) ts) w us (λ u. refl),
          )
      go false more =
          let k = product (constants ts) in
          omega (
            arith,
            ints,
            *ℤ_comm (part w t) k,
            ap (λ x. k *ℤ x) h.0,
            dot_scaled k (coefficient t) (λ u. coefficient t u *ℤ k) w us (λ u. *ℤ_comm (coefficient t u) k),
          )

  times_dot : (ts : Terms) → (is_linear ts ≡ true → AreDots ts) → (is_linear ts ≡ false → is_listed us (operation Op.Times ts) ≡ true) → IsDot (operation Op.Times ts)
  times_dot ts h listed = go (is_linear ts) refl
    where
      go : (b : Bool) → is_linear ts ≡ b → (if b then product_part w ts else w (operation Op.Times ts)) ≡ dot (λ u. if b then product_part (one_at u) ts else one_at u (operation Op.Times ts)) w us
      go true e = products_dot ts (h e)
      go false e = sym (dot_listed (operation Op.Times ts) w us distinct (listed e))

  times_covered : (ts : Terms) → Covers us (operation Op.Times ts) → is_linear ts ≡ false → is_listed us (operation Op.Times ts) ≡ true
  times_covered ts covers e =
      (subst (λ (b : Bool). AllByRecursion (λ u. is_listed us u ≡ true) (if b then opaque_among ts else operation Op.Times ts ∷ [])) e covers).0

  factors_covered : (ts : Terms) → Covers us (operation Op.Times ts) → is_linear ts ≡ true → CoversAll ts
  factors_covered ts covers e =
      subst (λ (b : Bool). AllByRecursion (λ u. is_listed us u ≡ true) (if b then opaque_among ts else operation Op.Times ts ∷ [])) e covers

  mutual
    pub part_is_dot : (t : Term) → Covers us t → IsDot t
    part_is_dot (numeral n) covers = sym (dot_nothing (λ u. pos 0) w us (λ u. refl))
    part_is_dot (operation Op.Plus ts) covers = sums_dot ts (parts_are_dots ts covers)
    part_is_dot (operation Op.Minus ts) covers = differences_dot ts (parts_are_dots ts covers)
    part_is_dot (operation Op.Times ts) covers =
        times_dot ts (λ e. parts_are_dots ts (factors_covered ts covers e)) (times_covered ts covers)
    part_is_dot t covers = sym (dot_listed t w us distinct covers.0)

    parts_are_dots : (ts : Terms) → CoversAll ts → AreDots ts
    parts_are_dots no_terms covers = tt
    parts_are_dots (term t ts) covers =
        let each = all_split (λ u. is_listed us u ≡ true) (opaque_terms t) (opaque_among ts) covers in
        (part_is_dot t each.0, parts_are_dots ts each.1)

-- a list in which each of these terms stands once
abbrev pub distinct_of : List Term → List Term
distinct_of [] = []
distinct_of (t ∷ ts) = if is_listed (distinct_of ts) t then distinct_of ts else t ∷ distinct_of ts

pub distinct_are : (ts : List Term) → AreDistinct (distinct_of ts)
distinct_are [] = tt
distinct_are (t ∷ ts) = go (is_listed (distinct_of ts) t) refl (distinct_are ts)
  where
    go : (b : Bool) → is_listed (distinct_of ts) t ≡ b → AreDistinct (distinct_of ts) → AreDistinct (if b then distinct_of ts else t ∷ distinct_of ts)
    go true e more = more
    go false e more = (e, more)

stays_listed : (t u : Term) (ts : List Term) (b : Bool) → is_listed ts u ≡ true → is_listed (if b then ts else t ∷ ts) u ≡ true
stays_listed t u ts true h = h
stays_listed t u ts false h = or_later (term_eq u t) (is_listed ts u) h
  where
    or_later : (a b : Bool) → b ≡ true → (a || b) ≡ true
    or_later true b e = refl
    or_later false b e = e

here_listed : (t : Term) (ts : List Term) (b : Bool) → is_listed ts t ≡ b → is_listed (if b then ts else t ∷ ts) t ≡ true
here_listed t ts true e = e
here_listed t ts false e = ap (λ (b : Bool). b || is_listed ts t) ((term_eq_decides t t).1 refl)

all_stay : (t : Term) (ts us : List Term) (b : Bool) → AllByRecursion (λ u. is_listed ts u ≡ true) us → AllByRecursion (λ u. is_listed (if b then ts else t ∷ ts) u ≡ true) us
all_stay t ts [] b h = tt
all_stay t ts (u ∷ us) b h = (stays_listed t u ts b h.0, all_stay t ts us b h.1)

pub all_listed : (ts : List Term) → AllByRecursion (λ u. is_listed (distinct_of ts) u ≡ true) ts
all_listed [] = tt
all_listed (t ∷ ts) = (
  here_listed t (distinct_of ts) (is_listed (distinct_of ts) t) refl,
  all_stay t (distinct_of ts) ts (is_listed (distinct_of ts) t) (all_listed ts),
)

-- terms of one form are worth the same, whatever their opaque terms are worth
pub one_form_part : (w : Term → ℤ) (t u : Term) → HaveOneForm t u → part w t ≡ part w u
one_form_part w t u h =
    let us = distinct_of (opaque_terms t ++ opaque_terms u) in
    let covers = all_split (λ x. is_listed us x ≡ true) (opaque_terms t) (opaque_terms u) (all_listed (opaque_terms t ++ opaque_terms u)) in
    let distinct = distinct_are (opaque_terms t ++ opaque_terms u) in
    part_is_dot w us distinct t covers.0 ∙ dot_same (coefficient t) (coefficient u) w us h.coefficients_are
    ∙ sym (part_is_dot w us distinct u covers.1)
