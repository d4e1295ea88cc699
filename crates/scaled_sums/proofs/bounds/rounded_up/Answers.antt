-- What is added is the rest of the opposite number.
use Rattle.std.proofs.Common.{◌≡◌, ℤ, pos, neg_ℤ, ◌+ℤ◌, ◌-ℤ◌, to_z, of_z, sym, subst, ap, ◌∙◌, arith}
use Rattle.std.specs.Int.{w128}
use Rattle.std.proofs.lemmas.Int.{ints}
use Rattle.std.specs.Int.{int_rem_euclid}
use Rattle.rule_model.specs.Arith.{IsRoundedUp}
use Rattle.scaled_sums.proofs.Wholes.{rounded, rounded_by_one}
use Rattle.scaled_sums.proofs.bounds.rounded_up.Goals as goal

pub returns-then-multiple-eq1 : goal.returns-then-multiple-eq1
returns-then-multiple-eq1 c =
    let same : ◌≡◌ {A = ℤ} (to_z w128 (of_z w128 c.args.value)) c.args.value = omega (arith, ints) in
    subst (IsRoundedUp c.args.multiple c.args.value) (sym same) (rounded_by_one c.args.multiple c.args.value c.if-multiple-eq1.true)

pub returns : goal.returns
returns c =
    let z = c.args.value in
    let n = c.args.multiple in
    let turned : ◌≡◌ {A = ℤ} (to_z w128 (of_z w128 (pos 0 -ℤ to_z w128 (of_z w128 z)))) (neg_ℤ z) = omega (arith, ints) in
    let scale : ◌≡◌ {A = ℤ} (to_z w128 n) (pos n) = omega (arith, ints) in
    let rest : ◌≡◌ {A = ℤ} c.rem_euclid.result (int_rem_euclid (neg_ℤ z) (pos n)) =
    c.rem_euclid.ensures.value ∙ (ap (λ x. int_rem_euclid x (to_z w128 n)) turned ∙ ap (int_rem_euclid (neg_ℤ z)) scale) in
    let up = rounded n z c.rem_euclid.result c.requires.over rest in
    let near = up.near in
    let above = up.above in
    let same : ◌≡◌ {A = ℤ} (to_z w128 (of_z w128 (to_z w128 (of_z w128 z) +ℤ to_z w128 (of_z w128 c.rem_euclid.result)))) (z +ℤ c.rem_euclid.result) = omega (arith, ints, near, above) in
    subst (IsRoundedUp n z) (sym same) up
