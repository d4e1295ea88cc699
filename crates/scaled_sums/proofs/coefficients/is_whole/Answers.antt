-- By the rest after division.
use Rattle.std.proofs.Common.{◌≡◌, ℤ, unsigned_abs, to_z, of_z, refl, ap, ◌∙◌, arith}
use Rattle.std.specs.Int.{w128}
use Rattle.std.proofs.lemmas.Int.{ints}
use Rattle.scaled_sums.proofs.Wholes.{rest_decides, whole_by_one}
use Rattle.scaled_sums.proofs.coefficients.is_whole.Goals as goal

pub returns-then-multiple-eq1 : goal.returns-then-multiple-eq1
returns-then-multiple-eq1 c =
    (λ e. whole_by_one c.args.multiple c.args.value c.if-multiple-eq1.true, λ h. refl)

pub returns : goal.returns
returns c =
    let same : ◌≡◌ {A = ℤ} (to_z w128 (of_z w128 c.args.value)) c.args.value = omega (arith, ints) in
    rest_decides c.args.multiple c.args.value c.unsigned_abs.result c.requires (c.unsigned_abs.ensures.value ∙ ap unsigned_abs same)
