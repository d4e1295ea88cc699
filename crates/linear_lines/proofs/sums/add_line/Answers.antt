-- The numbers of a line are within its weight, and it is added.
use Rattle.std.proofs.Common.{◌≡◌, ◌≢◌, ◌↔◌, ◌≤◌, ◌<◌, ℕ, ℤ, pos, neg_ℤ, ◌+◌, ◌*◌, ◌/◌, ◌++◌, ◌+ℤ◌, ◌*ℤ◌, max, unsigned_abs, [], ◌∷◌, map, IsTrue, to_z, of_z, FitsSigned, sym, ap, subst, ◌∙◌, arith}
use Rattle.std.specs.Int.{w128}
use Rattle.std.proofs.lemmas.Int.{ints, fits_signed_from_abs}
use Rattle.rule_model.specs.Arith.{equals, signed_by, bound_by, IsWhole, limit}
use Rattle.scaled_sums.specs.Coefficients.{sum_at, sizes_of, scale}
use Rattle.scaled_sums.specs.Relations.{relation_meant, IsBoundOf}
use Rattle.linear_lines.specs.Lines.{IsSumOf}
use Rattle.linear_lines.proofs.SumLemmas.{size_by, form_fits, own_fits, sum_fits, line_added}
use Rattle.linear_lines.proofs.sums.add_line.Goals as goal

pub rounds-rounded-requires-clause-narrow : goal.rounds-rounded-requires-clause-narrow
rounds-rounded-requires-clause-narrow c =
    let line = c.args.line in
    let f = c.factor_of-factor.result in
    let share = c.args.multiple / line.denominator in
    let same_f : ◌≡◌ {A = ℤ} (to_z w128 (of_z w128 f)) f = omega (arith, ints) in
    let same_n : ◌≡◌ {A = ℤ} (to_z w128 (of_z w128 line.numerator)) line.numerator = omega (arith, ints) in
    let size = size_by (relation_meant line.comparison.relation) line.numerator _ f share c.factor_of-factor.ensures same_n in
    subst (λ x. unsigned_abs x * sizes_of c.args.form.now < limit) (sym same_f)
    (form_fits (unsigned_abs f) (max (unsigned_abs line.numerator) 1 * share) (unsigned_abs c.args.numbers.constant) (sizes_of c.args.form.now) c.args.numbers.weight c.args.multiple _ limit size c.requires.light c.requires.narrow)

pub own_bound-own-requires-clause-narrow : goal.own_bound-own-requires-clause-narrow
own_bound-own-requires-clause-narrow c =
    let line = c.args.line in
    let f = c.factor_of-factor.result in
    let k = c.args.numbers.constant in
    let share = c.args.multiple / line.denominator in
    let same_f : ◌≡◌ {A = ℤ} (to_z w128 (of_z w128 f)) f = omega (arith, ints) in
    let same_k : ◌≡◌ {A = ℤ} (to_z w128 (of_z w128 k)) k = omega (arith, ints) in
    let same_n : ◌≡◌ {A = ℤ} (to_z w128 (of_z w128 line.numerator)) line.numerator = omega (arith, ints) in
    let size = size_by (relation_meant line.comparison.relation) line.numerator _ f share c.factor_of-factor.ensures same_n in
    subst (λ y. unsigned_abs (to_z w128 (of_z w128 f)) * (unsigned_abs y + 1) + c.args.multiple < limit) (sym same_k)
    (subst (λ x. unsigned_abs x * (unsigned_abs k + 1) + c.args.multiple < limit) (sym same_f)
    (own_fits (unsigned_abs f) (max (unsigned_abs line.numerator) 1 * share) (unsigned_abs k) (sizes_of c.args.form.now) c.args.numbers.weight c.args.multiple _ limit size c.requires.light c.requires.narrow))

pub add_scaled-requires : goal.add_scaled-requires
add_scaled-requires c =
    let line = c.args.line in
    let f = c.factor_of-factor.result in
    let share = c.args.multiple / line.denominator in
    let same_f : ◌≡◌ {A = ℤ} (to_z w128 (of_z w128 f)) f = omega (arith, ints) in
    let same_n : ◌≡◌ {A = ℤ} (to_z w128 (of_z w128 line.numerator)) line.numerator = omega (arith, ints) in
    let size = size_by (relation_meant line.comparison.relation) line.numerator _ f share c.factor_of-factor.ensures same_n in
    subst (λ x. unsigned_abs x * sizes_of c.args.form.now < limit) (sym same_f)
    (form_fits (unsigned_abs f) (max (unsigned_abs line.numerator) 1 * share) (unsigned_abs c.args.numbers.constant) (sizes_of c.args.form.now) c.args.numbers.weight c.args.multiple _ limit size c.requires.light c.requires.narrow)

pub overflow_add-result : goal.overflow_add-result
overflow_add-result c =
    let line = c.args.line in
    let f = c.factor_of-factor.result in
    let k = c.args.numbers.constant in
    let own = c.own_bound-own.result in
    let share = c.args.multiple / line.denominator in
    let same_f : ◌≡◌ {A = ℤ} (to_z w128 (of_z w128 f)) f = omega (arith, ints) in
    let same_k : ◌≡◌ {A = ℤ} (to_z w128 (of_z w128 k)) k = omega (arith, ints) in
    let same_n : ◌≡◌ {A = ℤ} (to_z w128 (of_z w128 line.numerator)) line.numerator = omega (arith, ints) in
    let size = size_by (relation_meant line.comparison.relation) line.numerator _ f share c.factor_of-factor.ensures same_n in
    let narrow : unsigned_abs own ≤ unsigned_abs f * (unsigned_abs k + 1) + c.args.multiple =
    subst (λ x. unsigned_abs own ≤ unsigned_abs x * (unsigned_abs k + 1) + c.args.multiple) same_f
    (subst (λ y. unsigned_abs own ≤ unsigned_abs (to_z w128 (of_z w128 f)) * (unsigned_abs y + 1) + c.args.multiple) same_k c.own_bound-own.ensures.narrow) in
    let most : unsigned_abs c.args.bound + unsigned_abs own < limit =
    sum_fits (unsigned_abs f) (max (unsigned_abs line.numerator) 1 * share) (unsigned_abs k) (sizes_of c.args.form.now) c.args.numbers.weight c.args.multiple (unsigned_abs c.args.bound) (sizes_of c.args.sum.now.items) (unsigned_abs own) limit size c.requires.light c.requires.narrow narrow in
    let same : ◌≡◌ {A = ℤ} (to_z w128 (of_z w128 c.args.bound) +ℤ to_z w128 (of_z w128 own)) (c.args.bound +ℤ own) = omega (arith, ints) in
    subst (FitsSigned w128) (sym same) (fits_signed_from_abs w128 (c.args.bound +ℤ own) (omega (arith, ints, most)))

pub returns : goal.returns
returns c =
    let line = c.args.line in
    let f = c.factor_of-factor.result in
    let k = c.args.numbers.constant in
    let own = c.own_bound-own.result in
    let m = c.args.multiple in
    let form = c.args.form.now in
    let old = c.args.sum.now.items in
    let new = c.add_scaled.new.sum.items in
    let rounded = c.rounds-rounded.result in
    let relation = relation_meant line.comparison.relation in
    let share = m / line.denominator in
    let same_f : ◌≡◌ {A = ℤ} (to_z w128 (of_z w128 f)) f = omega (arith, ints) in
    let same_k : ◌≡◌ {A = ℤ} (to_z w128 (of_z w128 k)) k = omega (arith, ints) in
    let same_n : ◌≡◌ {A = ℤ} (to_z w128 (of_z w128 line.numerator)) line.numerator = omega (arith, ints) in
    let size = size_by relation line.numerator _ f share c.factor_of-factor.ensures same_n in
    let factor_is : ◌≡◌ {A = ℤ} f (signed_by relation line.numerator *ℤ pos share) = c.factor_of-factor.ensures ∙ ap (λ z. signed_by relation z *ℤ pos share) same_n in
    let narrow : unsigned_abs own ≤ unsigned_abs f * (unsigned_abs k + 1) + m =
    subst (λ x. unsigned_abs own ≤ unsigned_abs x * (unsigned_abs k + 1) + m) same_f
    (subst (λ y. unsigned_abs own ≤ unsigned_abs (to_z w128 (of_z w128 f)) * (unsigned_abs y + 1) + m) same_k c.own_bound-own.ensures.narrow) in
    let most : unsigned_abs c.args.bound + unsigned_abs own < limit =
    sum_fits (unsigned_abs f) (max (unsigned_abs line.numerator) 1 * share) (unsigned_abs k) (sizes_of form) c.args.numbers.weight m (unsigned_abs c.args.bound) (sizes_of old) (unsigned_abs own) limit size c.requires.light c.requires.narrow narrow in
    let told : IsTrue rounded ↔ ((relation ≢ equals) × ((r : ℕ) → IsWhole m (f *ℤ sum_at form r))) =
    subst (λ x. IsTrue rounded ↔ ((relation ≢ equals) × ((r : ℕ) → IsWhole m (x *ℤ sum_at form r)))) same_f c.rounds-rounded.ensures in
    let bound_is : IsBoundOf rounded m (f *ℤ bound_by relation (neg_ℤ k)) own =
    subst (λ x. IsBoundOf rounded m (x *ℤ bound_by relation (neg_ℤ k)) own) same_f
    (subst (λ y. IsBoundOf rounded m (to_z w128 (of_z w128 f) *ℤ bound_by relation (neg_ℤ y)) own) same_k c.own_bound-own.ensures.bound) in
    let put : new ≡ old ++ map (scale f) form = subst (λ x. new ≡ old ++ map (scale x) form) same_f c.in_ok-add_scaled.ensures.put in
    let numbers : (r : ℕ) → sum_at new r ≡ sum_at old r +ℤ f *ℤ sum_at form r =
    subst (λ x. (r : ℕ) → sum_at new r ≡ sum_at old r +ℤ x *ℤ sum_at form r) same_f c.in_ok-add_scaled.ensures.numbers in
    let sizes : sizes_of new ≡ sizes_of old + unsigned_abs f * sizes_of form =
    subst (λ x. sizes_of new ≡ sizes_of old + unsigned_abs x * sizes_of form) same_f c.in_ok-add_scaled.ensures.sizes in
    let same : ◌≡◌ {A = ℤ} (to_z w128 (of_z w128 (to_z w128 (of_z w128 c.args.bound) +ℤ to_z w128 (of_z w128 own)))) (c.args.bound +ℤ own) = omega (arith, ints, most) in
    record {
      sum = λ s v l ls is of summed.
          subst (λ b. IsSumOf s v m (ls ++ l ∷ []) new b) (sym same)
          (line_added s v m line l c.args.numbers form is of ls old new c.args.bound own f rounded summed factor_is told bound_is narrow c.requires.light put numbers sizes);
    }
