-- The rules of linear arithmetic keep truth.
use Rattle.std.proofs.Common.{◌≡◌, ◌≢◌, ◌⊎◌, inl, inr, ℕ, ◌/◌, ℤ, pos, neg_ℤ, ◌+ℤ◌, ◌-ℤ◌, ◌*ℤ◌, ◌≤ℤ◌, ◌<ℤ◌, unsigned_abs, List, [], ◌∷◌, ◌++◌, true, Option, Some, None, refl, sym, ap, ◌∙◌, subst, arith, All, Any}
use Rattle.std.specs.List.{AllByRecursion}
use Rattle.std.proofs.Math.IntN.{zero-*ℤ, *ℤ_comm}
use Rattle.std.proofs.lemmas.Int.{ints}
use Rattle.std.proofs.lemmas.List.Elements.{All-nil, All-cons, All-head, All-tail}
use Rattle.term_model.specs.declared.symbols.Op.{Op}
use Rattle.term_model.specs.declared.symbols.Sort.{Sort}
use Rattle.term_model.specs.Flips.{equality}
use Rattle.term_model.specs.Interpretations.{Interpretation}
use Rattle.term_model.specs.Meaning.{Valuation, ValuationFits, value}
use Rattle.term_model.specs.Sorts.{IsOf}
use Rattle.term_model.specs.Terms.{Term, operation, term, no_terms, not_of, terms_of}
use Rattle.term_model.specs.Unsatisfiable.{MakesTrue}
use Rattle.term_model.specs.Values.{whole, as_whole}
use Rattle.term_model.proofs.Basics.{any_here, any_later}
use Rattle.term_model.proofs.Chains.{less_eq_is, less_is}
use Rattle.term_model.proofs.Meanings.{negation_is, equality_is}
use Rattle.term_model.proofs.Sorting.{value_has_sort, int_value, when-same}
use Rattle.rule_model.specs.Arith.{MeetsFormSimplification, Relation, exceeds, reaches, equals, Comparison, if_true, if_false, denial, coefficient_in, bound_by, bound_in, CoefficientLine, IsEquation, AreLines, signed_by, factor, scaled, IsWhole, IsRoundedUp, IsScaledBound, added_coefficient, IsAddedBound, MeetsLaGeneric}
use Rattle.rule_model.specs.declared.letter.Letter.{Letter}
use Rattle.rule_model.specs.Clauses.{MakesClauseTrue}
use Rattle.rule_model.specs.Conditions.{IsClauseOfTruths}
use Rattle.rule_model.specs.LinearForms.{constant, part, coefficient, opaque_terms, dot, is_listed, AreDistinct, Covers}
use Rattle.rule_model.specs.Patterns.{a, b, no, conj, disj, equal, less_eq}
use Rattle.rule_model.specs.Proofs.{Fraction}
use Rattle.rule_model.specs.Schemas.{ternary, tautology, IsInstanceOf}
use Rattle.rule_model.proofs.ArgumentLists.{true_or_not, all_of_and, and_of_all, or_of_some}
use Rattle.rule_model.proofs.Arguments.{all_arguments_are_truths}
use Rattle.rule_model.proofs.Joining.{equal_sorts, same_value}
use Rattle.rule_model.proofs.Simplify.{comparison_parts}
use Rattle.rule_model.proofs.LinearForms.{value_is_form, part_is_dot, one_form_part, dot_scaled, dot_added, dot_turned, dot_nothing, distinct_of, distinct_are, all_listed, all_split}
use Rattle.rule_model.proofs.Ring.{mul-add, mul_assoc, one-mul, mul_le}

-- a multiple of whole numbers
pub whole_sum : (m : ℕ) (x y : ℤ) → IsWhole m x → IsWhole m y → IsWhole m (x +ℤ y)
whole_sum m x y (j, e) (k, f) = (j +ℤ k, omega (arith, ints, e, f, mul-add (pos m) j k))

whole_times : (m : ℕ) (x y : ℤ) → IsWhole m x → IsWhole m (x *ℤ y)
whole_times m x y (k, e) = (k *ℤ y, ap (λ z. z *ℤ y) e ∙ mul_assoc (pos m) k y)

whole_dot : (m : ℕ) (c v : Term → ℤ) (us : List Term) → ((u : Term) → IsWhole m (c u)) → IsWhole m (dot c v us)
whole_dot m c v [] each = (pos 0, omega (arith, ints, *ℤ_comm (pos m) (pos 0), zero-*ℤ (pos m)))
whole_dot m c v (u ∷ us) each = whole_sum m (c u *ℤ v u) (dot c v us) (whole_times m (c u) (v u) (each u)) (whole_dot m c v us each)

-- between two multiples that are less than one apart nothing lies
pub no_step : (n : ℕ) (k j : ℤ) → (pos n *ℤ k) <ℤ (pos n *ℤ j +ℤ pos n) → k ≤ℤ j
no_step n k j h = go (true_le k j)
  where
    true_le : (k j : ℤ) → (k ≤ℤ j) ⊎ ((j +ℤ pos 1) ≤ℤ k)
    true_le k j = grind (arith, ints)

    go : (k ≤ℤ j) ⊎ ((j +ℤ pos 1) ≤ℤ k) → k ≤ℤ j
    go (inl le) = le
    go (inr gt) = absurd (omega (arith, ints, h, mul_le n (j +ℤ pos 1) k gt, mul-add (pos n) j (pos 1), *ℤ_comm (pos n) (pos 1), one-mul (pos n)))

-- what is rounded up is at most each multiple that is not below
rounded_most : (m : ℕ) (z rounded x : ℤ) → IsRoundedUp m z rounded → IsWhole m x → z ≤ℤ x → rounded ≤ℤ x
rounded_most m z rounded x up (j, f) h =
    let k = up.whole.0 in
    let e = up.whole.1 in
    let le = no_step m k j (omega (arith, ints, e, f, up.near, h)) in
    omega (arith, ints, e, f, mul_le m k j le)

module _ (I : Interpretation) (r : Valuation) where
  abbrev number : Term → ℤ
  number t = as_whole (value I r t)

  -- sum_simplify and its like
  int_is : ValuationFits r → (t : Term) → IsOf t Sort.Int → value I r t ≡ whole (number t)
  int_is fits t h = go (int_value (value I r t) (value_has_sort I r fits t Sort.Int h))
    where
      go : ((z : ℤ) × (value I r t ≡ whole z)) → value I r t ≡ whole (number t)
      go (z, e) = e ∙ sym (ap (λ v. whole (as_whole v)) e)

  pub form_simplify_keeps : ValuationFits r → (premises : List (List Term)) (clause : List Term) → MeetsFormSimplification premises clause → MakesClauseTrue I r clause
  form_simplify_keeps fits premises clause met =
      let s = met.sides in
      let numbers : ◌≡◌ {A = ℤ} (number s.left) (number s.right) =
      omega (arith, ints, value_is_form I r s.left, value_is_form I r s.right, met.one_form.constants_are, one_form_part number s.left s.right met.one_form) in
      rw s.literal (any_here (MakesTrue I r) (equality s.left s.right) []
      ((equality_is I r s.left s.right).1
      (int_is fits s.left s.left_sort ∙ ap whole numbers ∙ sym (int_is fits s.right s.right_sort))))

  -- what a comparison says of the numbers
  abbrev Says : Relation → ℤ → ℤ → Type 0
  Says exceeds x y = y <ℤ x
  Says reaches x y = y ≤ℤ x
  Says equals x y = x ≡ y

  abbrev Holds : Comparison → Type 0
  Holds c = Says c.relation (number c.first) (number c.second)

  abbrev HoldsOf : Option Comparison → Type 0
  HoldsOf None = Unit {0}
  HoldsOf (Some c) = Holds c

  true_holds : (t : Term) → MakesTrue I r t → HoldsOf (if_true t)
  true_holds (operation Op.LessEq (term s (term t no_terms))) h = (less_eq_is I r s t).0 h
  true_holds (operation Op.Less (term s (term t no_terms))) h = (less_is I r s t).0 h
  true_holds (operation Op.GreaterEq (term s (term t no_terms))) h = (less_eq_is I r t s).0 h
  true_holds (operation Op.Greater (term s (term t no_terms))) h = (less_is I r t s).0 h
  true_holds (operation Op.Equal (term s (term t no_terms))) h = ap as_whole ((equality_is I r s t).0 h)
  true_holds _ h = tt

  not_le : (x y : ℤ) → ¬ (x ≤ℤ y) → y <ℤ x
  not_le x y n = grind (arith, ints)

  not_lt : (x y : ℤ) → ¬ (x <ℤ y) → y ≤ℤ x
  not_lt x y n = grind (arith, ints)

  false_holds : (t : Term) → ¬ MakesTrue I r t → HoldsOf (if_false t)
  false_holds (operation Op.LessEq (term s (term t no_terms))) n = not_le _ _ (λ h. n ((less_eq_is I r s t).1 h))
  false_holds (operation Op.Less (term s (term t no_terms))) n = not_lt _ _ (λ h. n ((less_is I r s t).1 h))
  false_holds (operation Op.GreaterEq (term s (term t no_terms))) n = not_le _ _ (λ h. n ((less_eq_is I r t s).1 h))
  false_holds (operation Op.Greater (term s (term t no_terms))) n = not_lt _ _ (λ h. n ((less_is I r t s).1 h))
  false_holds _ n = tt

  true_of : (t : Term) → ¬ MakesTrue I r (not_of t) → MakesTrue I r t
  true_of t n =
      elim (true_or_not I r t) [ inl now ↦ now | inr fails ↦ absurd (n ((negation_is I r t).1 fails)) ]

  denial_holds : (t : Term) → ¬ MakesTrue I r t → HoldsOf (denial t)
  denial_holds (operation Op.Not (term (operation Op.Not (term t no_terms)) no_terms)) n =
      denial_holds t (λ h. n ((negation_is I r (not_of t)).1 (λ k. (negation_is I r t).0 k h)))
  denial_holds (operation Op.Not (term t no_terms)) n = true_holds t (true_of t n)
  denial_holds t n = false_holds t n

  -- a line's linear part under the opaque terms' values, and what a comparison says of it
  abbrev part_in : Comparison → ℤ
  part_in c = part number c.first -ℤ part number c.second

  abbrev Bounds : Relation → ℤ → ℤ → Type 0
  Bounds equals k x = k ≡ x
  Bounds other k x = k ≤ℤ x

  bounded : (c : Comparison) → Holds c → Bounds c.relation (bound_in c) (part_in c)
  bounded c h = go c.relation (number c.first) (number c.second) (constant c.first) (constant c.second) (part number c.first) (part number c.second) (value_is_form I r c.first) (value_is_form I r c.second) h
    where
      go : (relation : Relation) (x y k l p q : ℤ) → x ≡ k +ℤ p → y ≡ l +ℤ q → Says relation x y → Bounds relation (bound_by relation (l -ℤ k)) (p -ℤ q)
      go exceeds x y k l p q e f h = omega (arith, ints, e, f, h)
      go reaches x y k l p q e f h = omega (arith, ints, e, f, h)
      go equals x y k l p q e f h = omega (arith, ints, e, f, h)

  -- multiplied by its factor
  nonnegative : (n m : ℕ) (k x : ℤ) → k ≤ℤ x → ((pos n *ℤ pos m) *ℤ k) ≤ℤ ((pos n *ℤ pos m) *ℤ x)
  nonnegative n m k x h =
      omega (arith, ints, mul_assoc (pos n) (pos m) k, mul_assoc (pos n) (pos m) x, mul_le n (pos m *ℤ k) (pos m *ℤ x) (mul_le m k x h))

  scaled_bounds : (relation : Relation) (n : ℤ) (m : ℕ) (k x : ℤ) → Bounds relation k x → Bounds relation ((signed_by relation n *ℤ pos m) *ℤ k) ((signed_by relation n *ℤ pos m) *ℤ x)
  scaled_bounds exceeds n m k x h = nonnegative (unsigned_abs n) m k x h
  scaled_bounds reaches n m k x h = nonnegative (unsigned_abs n) m k x h
  scaled_bounds equals n m k x h = ap (λ z. (n *ℤ pos m) *ℤ z) h

  at_most_of : (relation : Relation) (k x : ℤ) → Bounds relation k x → k ≤ℤ x
  at_most_of exceeds k x h = h
  at_most_of reaches k x h = h
  at_most_of equals k x h = omega (arith, ints, h)

  -- the linear part as a sum over a list of terms
  dot_less : (c d e v : Term → ℤ) (us : List Term) → ((u : Term) → e u ≡ c u -ℤ d u) → dot e v us ≡ dot c v us -ℤ dot d v us
  dot_less c d e v us h =
      omega (arith, ints, dot_added c (λ u. neg_ℤ (d u)) e v us (λ u. omega (arith, ints, h u)), dot_turned d (λ u. neg_ℤ (d u)) v us (λ u. refl))

  part_is_sum : (us : List Term) → AreDistinct us → (c : Comparison) → Covers us c.first → Covers us c.second → part_in c ≡ dot (coefficient_in c) number us
  part_is_sum us distinct c first second =
      omega (
        arith,
        ints,
        part_is_dot number us distinct c.first first,
        part_is_dot number us distinct c.second second,
        dot_less (coefficient c.first) (coefficient c.second) (coefficient_in c) number us (λ u. refl),
      )

  line_is_sum : (m : ℕ) (us : List Term) → AreDistinct us → (l : CoefficientLine) → Covers us l.comparison.first → Covers us l.comparison.second → factor m l *ℤ part_in l.comparison ≡ dot (scaled m l) number us
  line_is_sum m us distinct l first second =
      ap (λ x. factor m l *ℤ x) (part_is_sum us distinct l.comparison first second)
      ∙ sym (dot_scaled (factor m l) (coefficient_in l.comparison) (scaled m l) number us (λ u. refl))

  line_whole : (m : ℕ) (l : CoefficientLine) → ((u : Term) → IsWhole m (scaled m l u)) → IsWhole m (factor m l *ℤ part_in l.comparison)
  line_whole m l each =
      let ts = opaque_terms l.comparison.first ++ opaque_terms l.comparison.second in
      let us = distinct_of ts in
      let covers = all_split (λ x. is_listed us x ≡ true) (opaque_terms l.comparison.first) (opaque_terms l.comparison.second) (all_listed ts) in
      subst (IsWhole m) (sym (line_is_sum m us (distinct_are ts) l covers.0 covers.1)) (whole_dot m (scaled m l) number us each)

  -- the scaled bound of a line whose comparison holds
  abbrev line_value : ℕ → CoefficientLine → ℤ
  line_value m l = factor m l *ℤ part_in l.comparison

  scaled_holds : (m : ℕ) (l : CoefficientLine) → Holds l.comparison → Bounds l.comparison.relation (factor m l *ℤ bound_in l.comparison) (line_value m l)
  scaled_holds m l h =
      scaled_bounds l.comparison.relation l.ratio.num (m / unsigned_abs l.ratio.den) (bound_in l.comparison) (part_in l.comparison) (bounded l.comparison h)

  line_below : (m : ℕ) (l : CoefficientLine) (z : ℤ) → Holds l.comparison → IsScaledBound m l z → z ≤ℤ line_value m l
  line_below m l z h (inl (round, up)) =
      rounded_most m _ z (line_value m l) up (line_whole m l round.whole) (at_most_of l.comparison.relation _ _ (scaled_holds m l h))
  line_below m l z h (inr (plain, e)) =
      omega (arith, ints, e, at_most_of l.comparison.relation _ _ (scaled_holds m l h))

  equal_of : (relation : Relation) (k x : ℤ) → relation ≡ equals → Bounds relation k x → k ≡ x
  equal_of exceeds k x e h = absurd cc
  equal_of reaches k x e h = absurd cc
  equal_of equals k x e h = h

  line_equal : (m : ℕ) (l : CoefficientLine) (z : ℤ) → IsEquation l → Holds l.comparison → IsScaledBound m l z → z ≡ line_value m l
  line_equal m l z equation h (inl (round, up)) = absurd (round.inequality equation)
  line_equal m l z equation h (inr (plain, e)) = e ∙ equal_of l.comparison.relation _ _ equation (scaled_holds m l h)

  -- all lines together
  abbrev lines_value : ℕ → List CoefficientLine → ℤ
  lines_value m [] = pos 0
  lines_value m (l ∷ ls) = line_value m l +ℤ lines_value m ls

  abbrev AllHold : List CoefficientLine → Type 0
  AllHold ls = AllByRecursion (λ l. Holds l.comparison) ls

  lines_below : (m : ℕ) (ls : List CoefficientLine) (z : ℤ) → AllHold ls → IsAddedBound m ls z → z ≤ℤ lines_value m ls
  lines_below m [] z h e = omega (arith, ints, e)
  lines_below m (l ∷ ls) z h (x, y, first, rest, e) =
      omega (arith, ints, e, line_below m l x h.0 first, lines_below m ls y h.1 rest)

  lines_equal : (m : ℕ) (ls : List CoefficientLine) (z : ℤ) → All IsEquation ls → AllHold ls → IsAddedBound m ls z → z ≡ lines_value m ls
  lines_equal m [] z equations h e = e
  lines_equal m (l ∷ ls) z equations h (x, y, first, rest, e) =
      omega (arith, ints, e, line_equal m l x (All-head IsEquation l ls equations) h.0 first, lines_equal m ls y (All-tail IsEquation l ls equations) h.1 rest)

  abbrev opaque_of : List CoefficientLine → List Term
  opaque_of [] = []
  opaque_of (l ∷ ls) = (opaque_terms l.comparison.first ++ opaque_terms l.comparison.second) ++ opaque_of ls

  lines_are_sum : (m : ℕ) (us : List Term) → AreDistinct us → (ls : List CoefficientLine) → AllByRecursion (λ x. is_listed us x ≡ true) (opaque_of ls) → lines_value m ls ≡ dot (added_coefficient m ls) number us
  lines_are_sum m us distinct [] covers = sym (dot_nothing (λ u. pos 0) number us (λ u. refl))
  lines_are_sum m us distinct (l ∷ ls) covers =
      let split = all_split (λ x. is_listed us x ≡ true) (opaque_terms l.comparison.first ++ opaque_terms l.comparison.second) (opaque_of ls) covers in
      let sides = all_split (λ x. is_listed us x ≡ true) (opaque_terms l.comparison.first) (opaque_terms l.comparison.second) split.0 in
      omega (
        arith,
        ints,
        line_is_sum m us distinct l sides.0 sides.1,
        lines_are_sum m us distinct ls split.1,
        dot_added (scaled m l) (added_coefficient m ls) (added_coefficient m (l ∷ ls)) number us (λ u. refl),
      )

  cancelled_value : (m : ℕ) (ls : List CoefficientLine) → ((u : Term) → added_coefficient m ls u ≡ pos 0) → lines_value m ls ≡ pos 0
  cancelled_value m ls zero_each =
      let us = distinct_of (opaque_of ls) in
      lines_are_sum m us (distinct_are (opaque_of ls)) ls (all_listed (opaque_of ls)) ∙ dot_nothing (added_coefficient m ls) number us zero_each

  -- the negated literals cannot all hold
  lines_absurd : (m : ℕ) (ls : List CoefficientLine) (z : ℤ) → ((u : Term) → added_coefficient m ls u ≡ pos 0) → IsAddedBound m ls z → (pos 0 <ℤ z) ⊎ (All IsEquation ls × (z ≢ pos 0)) → ¬ AllHold ls
  lines_absurd m ls z cancel bound (inl above) = λ h. absurd (omega (arith, ints, above, lines_below m ls z h bound, cancelled_value m ls cancel))
  lines_absurd m ls z cancel bound (inr (equations, apart)) = λ h. apart (lines_equal m ls z equations h bound ∙ cancelled_value m ls cancel)

  some_or_none : (ts : List Term) → MakesClauseTrue I r ts ⊎ AllByRecursion (λ t. ¬ MakesTrue I r t) ts
  some_or_none [] = inr tt
  some_or_none (t ∷ ts) =
      elim (true_or_not I r t) [
        | inl now ↦ inl (any_here (MakesTrue I r) t ts now)
        | inr fails ↦ elim (some_or_none ts) [ inl later ↦ inl (any_later (MakesTrue I r) t ts later) | inr none ↦ inr (fails, none) ]
      ]

  lines_hold : (ts : List Term) (qs : List Fraction) (ls : List CoefficientLine) → AreLines ts qs ls → AllByRecursion (λ t. ¬ MakesTrue I r t) ts → AllHold ls
  lines_hold [] [] [] read none = tt
  lines_hold (t ∷ ts) (q ∷ qs) (l ∷ ls) read none =
      (subst HoldsOf read.0 (denial_holds t none.0), lines_hold ts qs ls read.4 none.1)
  lines_hold [] [] (l ∷ ls) read none = absurd read
  lines_hold [] (q ∷ qs) ls read none = absurd read
  lines_hold (t ∷ ts) [] ls read none = absurd read
  lines_hold (t ∷ ts) (q ∷ qs) [] read none = absurd read

  pub la_generic_keeps : (ratios : Option (List Fraction)) (premises : List (List Term)) (clause : List Term) → MeetsLaGeneric ratios premises clause → MakesClauseTrue I r clause
  la_generic_keeps ratios premises clause met =
      elim (some_or_none clause) [
        | inl now ↦ now
        | inr none ↦ absurd (lines_absurd met.form.multiple met.form.lines met.absurd_by.bound met.absurd_by.cancelled met.absurd_by.added met.absurd_by.absurd_bound (lines_hold clause met.form.fractions met.form.lines met.form.read none))
      ]

  -- la_disequality, la_totality and la_rw_eq
  abbrev at_most : Term → Term → Term
  at_most t u = operation Op.LessEq (term t (term u no_terms))

  order : (x y : ℤ) → (x ≡ y) ⊎ ((x <ℤ y) ⊎ (y <ℤ x))
  order x y = grind (arith, ints)

  not_at_most : (t u : Term) → number u <ℤ number t → MakesTrue I r (not_of (at_most t u))
  not_at_most t u h = (negation_is I r (at_most t u)).1 (λ k. absurd (omega (arith, ints, h, (less_eq_is I r t u).0 k)))

  equal_numbers : ValuationFits r → (t u : Term) → IsOf t Sort.Int → IsOf u Sort.Int → number t ≡ number u → MakesTrue I r (equality t u)
  equal_numbers fits t u h k e = (equality_is I r t u).1 (int_is fits t h ∙ ap whole e ∙ sym (int_is fits u k))

  some_of_three : ValuationFits r → (t u : Term) → IsOf t Sort.Int → IsOf u Sort.Int → Any (MakesTrue I r) (equality t u ∷ not_of (at_most t u) ∷ not_of (at_most u t) ∷ [])
  some_of_three fits t u h k =
      let last = not_of (at_most u t) ∷ [] in
      let later = not_of (at_most t u) ∷ last in
      elim (order (number t) (number u)) [
        | inl e ↦ any_here (MakesTrue I r) (equality t u) later (equal_numbers fits t u h k e)
        | inr (inl below) ↦ any_later (MakesTrue I r) (equality t u) later (any_later (MakesTrue I r) (not_of (at_most t u)) last (any_here (MakesTrue I r) (not_of (at_most u t)) [] (not_at_most u t below)))
        | inr (inr above) ↦ any_later (MakesTrue I r) (equality t u) later (any_here (MakesTrue I r) (not_of (at_most t u)) last (not_at_most t u above))
      ]

  pub la_disequality_keeps : ValuationFits r → (premises : List (List Term)) (clause : List Term) → IsInstanceOf (tautology (ternary Op.Or (equal a b) (no (less_eq a b)) (no (less_eq b a)) ∷ [])) premises clause → IsClauseOfTruths clause → MakesClauseTrue I r clause
  la_disequality_keeps fits premises clause met sorted =
      let t = met.terms Letter.A in
      let u = met.terms Letter.B in
      let ts = equality t u ∷ not_of (at_most t u) ∷ not_of (at_most u t) ∷ [] in
      let whole = All-head (λ t. IsOf t Sort.Bool) (operation Op.Or (terms_of ts)) [] (subst IsClauseOfTruths met.literals sorted) in
      let parts = all_arguments_are_truths Op.Or (terms_of ts) refl whole in
      let inner = all_arguments_are_truths Op.Not (term (at_most t u) no_terms) refl parts.1.0 in
      let numbers = comparison_parts Op.LessEq t u Sort.Bool refl inner.0 in
      rw met.literals (any_here (MakesTrue I r) (operation Op.Or (terms_of ts)) []
      (or_of_some I r ts (some_of_three fits t u numbers.first numbers.second)))

  one_of_two : (t u : Term) → Any (MakesTrue I r) (at_most t u ∷ at_most u t ∷ [])
  one_of_two t u =
      elim (order (number t) (number u)) [
        | inl e ↦ any_here (MakesTrue I r) (at_most t u) (at_most u t ∷ []) ((less_eq_is I r t u).1 (omega (arith, ints, e)))
        | inr (inl below) ↦ any_here (MakesTrue I r) (at_most t u) (at_most u t ∷ []) ((less_eq_is I r t u).1 (omega (arith, ints, below)))
        | inr (inr above) ↦ any_later (MakesTrue I r) (at_most t u) (at_most u t ∷ []) (any_here (MakesTrue I r) (at_most u t) [] ((less_eq_is I r u t).1 (omega (arith, ints, above))))
      ]

  pub la_totality_keeps : (premises : List (List Term)) (clause : List Term) → IsInstanceOf (tautology (disj (less_eq a b) (less_eq b a) ∷ [])) premises clause → MakesClauseTrue I r clause
  la_totality_keeps premises clause met =
      let t = met.terms Letter.A in
      let u = met.terms Letter.B in
      rw met.literals (any_here (MakesTrue I r) (operation Op.Or (terms_of (at_most t u ∷ at_most u t ∷ []))) []
      (or_of_some I r (at_most t u ∷ at_most u t ∷ []) (one_of_two t u)))

  pub la_rw_eq_keeps : ValuationFits r → (premises : List (List Term)) (clause : List Term) → IsInstanceOf (tautology (equal (equal a b) (conj (less_eq a b) (less_eq b a)) ∷ [])) premises clause → IsClauseOfTruths clause → MakesClauseTrue I r clause
  la_rw_eq_keeps fits premises clause met sorted =
      let t = met.terms Letter.A in
      let u = met.terms Letter.B in
      let both = at_most t u ∷ at_most u t ∷ [] in
      let right = operation Op.And (terms_of both) in
      let whole = All-head (λ t. IsOf t Sort.Bool) (equality (equality t u) right) [] (subst IsClauseOfTruths met.literals sorted) in
      let sides = equal_sorts (equality t u) right whole in
      let bool : sides.sort ≡ Sort.Bool = when-same _ _ sides.sort sides.second.is in
      let truths = all_arguments_are_truths Op.And (terms_of both) refl (subst (IsOf right) bool sides.second) in
      let numbers = comparison_parts Op.LessEq t u Sort.Bool refl truths.0 in
      rw met.literals (any_here (MakesTrue I r) (equality (equality t u) right) []
      ((equality_is I r (equality t u) right).1
      (same_value I r fits (equality t u) right (subst (IsOf (equality t u)) bool sides.first) (subst (IsOf right) bool sides.second) (
        (λ h. let e = ap as_whole ((equality_is I r t u).0 h) in
            and_of_all I r both (All-cons (MakesTrue I r) (at_most t u) (at_most u t ∷ []) ((less_eq_is I r t u).1 (omega (arith, ints, e)))
            (All-cons (MakesTrue I r) (at_most u t) [] ((less_eq_is I r u t).1 (omega (arith, ints, e))) (All-nil (MakesTrue I r))))),
        (λ h. let all = all_of_and I r both h in
            let first = (less_eq_is I r t u).0 (All-head (MakesTrue I r) (at_most t u) (at_most u t ∷ []) all) in
            let second = (less_eq_is I r u t).0 (All-head (MakesTrue I r) (at_most u t) [] (All-tail (MakesTrue I r) (at_most t u) (at_most u t ∷ []) all)) in
            equal_numbers fits t u numbers.first numbers.second (omega (arith, ints, first, second))),
      ))))
