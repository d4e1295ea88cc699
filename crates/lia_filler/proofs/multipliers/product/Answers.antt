-- The product fits, and so is as it is written.
use Rattle.std.proofs.Common.{rules, ◌≡◌, ℤ, FitsSigned, refl, arith}
use Rattle.std.specs.Int.{w128}
use Rattle.std.proofs.lemmas.Int.{ints, to_z-of_z}
use Rattle.lia_filler.proofs.Sizes.{product_fits, product_small}
use Rattle.lia_filler.proofs.multipliers.product.Goals as goal

pub returns-clause-value : goal.returns-clause-value
returns-clause-value c =
    let number : ◌≡◌ {A = ℤ} c.from.result c.args.number = search rules in
    let fits_multiplier : FitsSigned w128 c.args.multiplier = c.ranges.multiplier in
    let fits_number : FitsSigned w128 c.args.number = omega (arith, ints) in
    let fits = product_fits c.args.multiplier c.args.number c.requires.small c.requires.narrow in
    rw number (simp to_z-of_z refl)

pub returns-clause-small : goal.returns-clause-small
returns-clause-small c =
    let value = returns-clause-value c in
    rw value (product_small c.args.multiplier c.args.number c.requires.small c.requires.narrow)
