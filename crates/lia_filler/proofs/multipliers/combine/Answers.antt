-- One product more.
use Rattle.std.proofs.Common.{rules, ◌^◌, ◌≤◌, ◌+ℤ◌, ◌*ℤ◌, ℤ, pos, get_or, FitsSigned, unsigned_abs, ap, ◌∙◌, arith}
use Rattle.std.specs.Int.{w64, w128}
use Rattle.std.proofs.lemmas.Int.{ints, to_z-of_z, fits_signed_from_abs}
use Rattle.lia_filler.specs.Parts.{part_of}
use Rattle.lia_filler.proofs.Multiplied.{combined_more}
use Rattle.lia_filler.proofs.multipliers.combine.Goals as goal

pub loop-i-preserved : goal.loop-i-preserved
loop-i-preserved c =
    let m : ℤ = get_or c.args.multipliers.now c.loop-i.i (pos 0) in
    let fits_m : FitsSigned w128 (get_or c.args.multipliers.now c.loop-i.i (pos 0)) = search rules in
    let fits_n : FitsSigned w64 c.number_of.result = search rules in
    let fits_p : FitsSigned w128 c.product-sum.result = search rules in
    let value = simp to_z-of_z at c.product-sum.ensures.value in
    let small : unsigned_abs c.product-sum.result ≤ 2 ^ 123 = c.product-sum.ensures.small in
    let fits : FitsSigned w128 (c.loop-i.sum +ℤ c.product-sum.result) = fits_signed_from_abs w128 _
    (omega (arith, ints, small, c.loop-i.invariant.small, c.requires.few)) in
    let next = combined_more (part_of c.args.part) c.args.rows.now c.args.multipliers.now c.loop-i.i _ c.loop-i.sum _ c.product-sum.result
    c.loop-i-test.true (omega arith) (value ∙ ap (λ (z : ℤ). get_or c.args.multipliers.now c.loop-i.i (pos 0) *ℤ z) c.number_of.ensures.value)
    (rw c.loop-i.sum-is at c.loop-i.invariant.sums) in
    rw c.loop-i.sum-is (simp to_z-of_z (record { sums = next; small = omega (arith, ints, small, c.loop-i.invariant.small) }))
