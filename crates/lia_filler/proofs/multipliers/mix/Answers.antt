-- One entry more.
use Rattle.std.proofs.Common.{rules, ◌≡◌, pos, length, get_or, FitsSigned, sym, ◌∙◌, arith}
use Rattle.std.specs.Int.{w128}
use Rattle.std.proofs.Math.ListN.{length-set}
use Rattle.std.proofs.lemmas.Int.{to_z-of_z}
use Rattle.std.proofs.lemmas.List.{take_all}
use Rattle.lia_filler.specs.Mixing.{mixed}
use Rattle.lia_filler.proofs.Multiplied.{mixed_more, length-mixed}
use Rattle.lia_filler.proofs.multipliers.mix.Goals as goal

pub loop-i-preserved : goal.loop-i-preserved
loop-i-preserved c =
    let fits_a : FitsSigned w128 c.args.a = c.ranges.a in
    let fits_b : FitsSigned w128 c.args.b = c.ranges.b in
    let fits_x : FitsSigned w128 (get_or c.args.x.now c.loop-i.i (pos 0)) = search rules in
    let fits_y : FitsSigned w128 (get_or c.args.y.now c.loop-i.i (pos 0)) = search rules in
    let fits_v : FitsSigned w128 c.entry.result = search rules in
    let value = simp to_z-of_z at c.entry.ensures in
    let before = simp to_z-of_z at c.loop-i.invariant.1 in
    let next = mixed_more c.args.a c.args.b c.args.x.now c.args.y.now c.loop-i.sum c.loop-i.i c.entry.result
    (omega arith) (omega arith) (omega arith) before value in
    simp to_z-of_z (omega (arith, length-set c.loop-i.sum c.loop-i.i c.entry.result), next)

pub returns : goal.returns
returns c =
    let fits_a : FitsSigned w128 c.args.a = c.ranges.a in
    let fits_b : FitsSigned w128 c.args.b = c.ranges.b in
    let before = simp to_z-of_z at c.loop-i.invariant.1 in
    let long : length (mixed c.args.a c.args.x.now c.args.b c.args.y.now) ≡ 8 =
    omega (arith, length-mixed c.args.a c.args.b c.args.x.now c.args.y.now (omega arith)) in
    sym (take_all c.loop-i.i c.loop-i.sum (omega arith)) ∙ (before ∙ take_all c.loop-i.i (mixed c.args.a c.args.x.now c.args.b c.args.y.now) (omega arith))
