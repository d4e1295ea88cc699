-- The bound is at most one more than the constant.
use Rattle.std.proofs.Common.{◌≡◌, ◌≤◌, ◌+◌, ◌*◌, ℤ, neg_ℤ, to_z, of_z, unsigned_abs, sym, ap, subst, ◌∙◌, arith}
use Rattle.std.specs.Int.{w128}
use Rattle.std.proofs.lemmas.Int.{ints}
use Rattle.rule_model.specs.Arith.{bound_by}
use Rattle.scaled_sums.specs.Relations.{relation_meant}
use Rattle.linear_lines.proofs.SumLemmas.{bound_fits}
use Rattle.linear_lines.proofs.sums.own_bound.Goals as goal

pub returns-clause-narrow : goal.returns-clause-narrow
returns-clause-narrow c =
    let f = c.args.factor in
    let k = c.args.constant in
    let b = c.line_bound-bound.result in
    let r = c.scaled_bound.result in
    let m = c.args.multiple in
    let relation = relation_meant c.args.relation in
    let same_f : ◌≡◌ {A = ℤ} (to_z w128 (of_z w128 f)) f = omega (arith, ints) in
    let same_k : ◌≡◌ {A = ℤ} (to_z w128 (of_z w128 k)) k = omega (arith, ints) in
    let same_b : ◌≡◌ {A = ℤ} (to_z w128 (of_z w128 b)) b = omega (arith, ints) in
    let same_r : ◌≡◌ {A = ℤ} (to_z w128 (of_z w128 r)) r = omega (arith, ints) in
    let bound_is = c.line_bound-bound.ensures ∙ ap (λ x. bound_by relation (neg_ℤ x)) same_k in
    let narrow : unsigned_abs r ≤ unsigned_abs f * unsigned_abs b + m =
    subst (λ x. unsigned_abs r ≤ unsigned_abs x * unsigned_abs b + m) same_f (subst (λ y. unsigned_abs r ≤ unsigned_abs (to_z w128 (of_z w128 f)) * unsigned_abs y + m) same_b c.scaled_bound.ensures.narrow) in
    subst (λ x. unsigned_abs x ≤ unsigned_abs f * (unsigned_abs k + 1) + m) (sym same_r) (bound_fits f k b relation m (unsigned_abs r) bound_is narrow)
