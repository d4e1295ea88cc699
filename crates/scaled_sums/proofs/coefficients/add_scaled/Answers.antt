-- Each product is narrow, and all are put in.
use Rattle.std.proofs.Common.{◌≡◌, ◌+◌, ◌*◌, ◌<◌, ◌+ℤ◌, ◌++◌, ℤ, unsigned_abs, to_z, of_z, map, sym, subst, ap, ◌∙◌, arith}
use Rattle.std.specs.Int.{w128}
use Rattle.std.proofs.lemmas.Int.{ints}
use Rattle.std.proofs.lemmas.List.{take_all}
use Rattle.rule_model.specs.Arith.{limit}
use Rattle.scaled_sums.specs.Coefficients.{sum_at, sizes_of, scale}
use Rattle.scaled_sums.proofs.coefficients.add_scaled.Goals as goal
use Rattle.scaled_sums.proofs.Sums.{scaled_within, joined, scaled_number, sizes_joined, sizes_scaled}

pub scaled-requires : goal.scaled-requires
scaled-requires c =
    let same : ◌≡◌ {A = ℤ} (to_z w128 (of_z w128 c.args.factor)) c.args.factor = omega (arith, ints) in
    subst (λ x. unsigned_abs x * unsigned_abs c.c-item.result.number < limit) (sym same)
    (scaled_within c.args.factor c.args.line.now c.loop-c.c-index limit c.c-item.result c.loop-c-test.true c.c-item.is c.requires)

put : (c : goal.After-loop-c) → c.loop-c.sum.items ≡ c.args.sum.now.items ++ map (scale c.args.factor) c.args.line.now
put c =
    let same : ◌≡◌ {A = ℤ} (to_z w128 (of_z w128 c.args.factor)) c.args.factor = omega (arith, ints) in
    c.loop-c.invariant ∙ (ap (λ cs. c.args.sum.now.items ++ map (scale (to_z w128 (of_z w128 c.args.factor))) cs) (take_all c.loop-c.c-index c.args.line.now c.loop-c-test.false) ∙ ap (λ x. c.args.sum.now.items ++ map (scale x) c.args.line.now) same)

pub returns-clause-put : goal.returns-clause-put
returns-clause-put c = put c

pub returns-clause-numbers : goal.returns-clause-numbers
returns-clause-numbers c = λ r.
    ap (λ cs. sum_at cs r) (put c)
    ∙ (joined c.args.sum.now.items (map (scale c.args.factor) c.args.line.now) r ∙ ap (λ x. sum_at c.args.sum.now.items r +ℤ x) (scaled_number c.args.factor c.args.line.now r))

pub returns-clause-sizes : goal.returns-clause-sizes
returns-clause-sizes c =
    ap sizes_of (put c)
    ∙ (sizes_joined c.args.sum.now.items (map (scale c.args.factor) c.args.line.now) ∙ ap (λ x. sizes_of c.args.sum.now.items + x) (sizes_scaled c.args.factor c.args.line.now))
