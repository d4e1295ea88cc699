-- Both products are narrow.
use Rattle.std.proofs.Common.{FitsSigned, refl}
use Rattle.std.specs.Int.{w128}
use Rattle.std.proofs.lemmas.Int.{to_z-of_z}
use Rattle.lia_filler.proofs.Sizes.{factor_fits, sum_fits}
use Rattle.lia_filler.proofs.multipliers.entry.Goals as goal

pub overflow_add-result : goal.overflow_add-result
overflow_add-result c =
    let fits_a : FitsSigned w128 c.args.a = c.ranges.a in
    let fits_x : FitsSigned w128 c.args.x = c.ranges.x in
    let fits_b : FitsSigned w128 c.args.b = c.ranges.b in
    let fits_y : FitsSigned w128 c.args.y = c.ranges.y in
    let first = factor_fits c.args.a c.args.x c.requires.first c.requires.first_small in
    let second = factor_fits c.args.b c.args.y c.requires.second c.requires.second_small in
    simp to_z-of_z (sum_fits c.args.a c.args.x c.args.b c.args.y c.requires.first c.requires.first_small c.requires.second c.requires.second_small)

pub returns : goal.returns
returns c =
    let fits_a : FitsSigned w128 c.args.a = c.ranges.a in
    let fits_x : FitsSigned w128 c.args.x = c.ranges.x in
    let fits_b : FitsSigned w128 c.args.b = c.ranges.b in
    let fits_y : FitsSigned w128 c.args.y = c.ranges.y in
    let first = factor_fits c.args.a c.args.x c.requires.first c.requires.first_small in
    let second = factor_fits c.args.b c.args.y c.requires.second c.requires.second_small in
    let fits = sum_fits c.args.a c.args.x c.args.b c.args.y c.requires.first c.requires.first_small c.requires.second c.requires.second_small in
    simp to_z-of_z refl
