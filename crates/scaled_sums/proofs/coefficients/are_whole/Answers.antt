-- Each coefficient is a term's own, since no term stands twice.
use Rattle.std.proofs.Common.{◌≡◌, ◌*◌, ◌<◌, ◌*ℤ◌, ℕ, ℤ, unsigned_abs, to_z, of_z, All, get_or, take, refl, sym, subst, ap, ◌∙◌, arith}
use Rattle.std.specs.Int.{w128}
use Rattle.std.proofs.lemmas.Int.{ints}
use Rattle.std.proofs.lemmas.List.{take_all, take_more}
use Rattle.std.proofs.lemmas.List.Elements.{All-push}
use Rattle.rule_model.specs.Arith.{IsWhole, limit}
use Rattle.scaled_sums.specs.declared.coefficients.Coefficient.{Coefficient}
use Rattle.scaled_sums.specs.Coefficients.{sum_at}
use Rattle.scaled_sums.proofs.coefficients.are_whole.Goals as goal
use Rattle.scaled_sums.proofs.Sums.{AreWhole, scaled_within, alone, all_whole}

pub comes_whole-requires-clause-narrow : goal.comes_whole-requires-clause-narrow
comes_whole-requires-clause-narrow c =
    let same : ◌≡◌ {A = ℤ} (to_z w128 (of_z w128 c.args.factor)) c.args.factor = omega (arith, ints) in
    subst (λ x. unsigned_abs x * unsigned_abs c.c-item.result.number < limit) (sym same)
    (scaled_within c.args.factor c.args.line.now c.loop-c.c-index limit c.c-item.result c.loop-c-test.true c.c-item.is c.requires.narrow)

pub returns-then-not-comes_whole : goal.returns-then-not-comes_whole
returns-then-not-comes_whole c =
    let n = c.args.multiple in
    let own = alone c.args.line.now c.loop-c.c-index c.c-item.result c.requires.apart c.loop-c-test.true c.c-item.is in
    let same : ◌≡◌ {A = ℤ} (to_z w128 (of_z w128 c.args.factor)) c.args.factor = omega (arith, ints) in
    let here : ((r : ℕ) → IsWhole n (c.args.factor *ℤ sum_at c.args.line.now r)) → IsWhole n (to_z w128 (of_z w128 c.args.factor) *ℤ c.c-item.result.number) =
    λ all. subst (IsWhole n) (ap (λ x. c.args.factor *ℤ x) own ∙ ap (λ x. x *ℤ c.c-item.result.number) (sym same)) (all c.c-item.result.term) in
    (λ e. absurd cc, λ all. sym c.if-not-comes_whole.true ∙ c.comes_whole.ensures.1 (here all))

pub loop-c-preserved : goal.loop-c-preserved
loop-c-preserved c =
    let f = to_z w128 (of_z w128 c.args.factor) in
    let Whole : Coefficient → Type 0 = λ (x : Coefficient). IsWhole c.args.multiple (f *ℤ x.number) in
    let here : Whole c.c-item.result = c.comes_whole.ensures.0 c.if-not-comes_whole.false in
    subst (All Whole) (sym (take_more c.args.line.now c.loop-c.c-index c.c-item.result c.loop-c-test.true))
    (All-push Whole (take c.loop-c.c-index c.args.line.now) (get_or c.args.line.now c.loop-c.c-index c.c-item.result) c.loop-c.invariant (subst Whole c.c-item.is here))

pub returns : goal.returns
returns c =
    let n = c.args.multiple in
    let same : ◌≡◌ {A = ℤ} (to_z w128 (of_z w128 c.args.factor)) c.args.factor = omega (arith, ints) in
    let all : AreWhole n c.args.factor c.args.line.now =
    subst (λ x. AreWhole n x c.args.line.now) same (subst (AreWhole n (to_z w128 (of_z w128 c.args.factor))) (take_all c.loop-c.c-index c.args.line.now c.loop-c-test.false) c.loop-c.invariant) in
    (λ yes r. all_whole n c.args.factor c.args.line.now r all, λ h. refl)
