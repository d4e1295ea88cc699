-- What is made is derived.
use Rattle.std.proofs.Common.{◌≡◌, ◌+◌, ◌<ℤ◌, ◌-ℤ◌, ℤ, pos, neg_ℤ, FitsSigned, unsigned_abs, ◌^◌, ◌≤◌, add-one, subst, sym, ap, ◌∙◌, arith}
use Rattle.std.specs.Int.{w128}
use Rattle.std.proofs.lemmas.Int.{ints, to_z-of_z, fits_signed_from_abs}
use Rattle.lia_filler.specs.Mixing.{mixed}
use Rattle.lia_filler.specs.Elimination.{IsDerived, in_column, paired}
use Rattle.lia_filler.proofs.Derived.{derived_pair, limits_before}
use Rattle.lia_filler.proofs.elimination.pair.Goals as goal

pub returns-clause-derived : goal.returns-clause-derived
returns-clause-derived c =
    let within : unsigned_abs c.args.low ≤ 2 ^ 55 = omega (
      arith,
      ap unsigned_abs c.requires.low.1,
      c.requires.low.0.narrow c.args.column c.requires.column,
      (limits_before c.args.column c.requires.column).1,
    ) in
    let fits_low : FitsSigned w128 c.args.low = c.ranges.low in
    let fits_high : FitsSigned w128 c.args.high = c.ranges.high in
    let fits_turned : FitsSigned w128 (pos 0 -ℤ c.args.low) = fits_signed_from_abs w128 _ (omega (arith, ints)) in
    let mixed_so = simp to_z-of_z at c.mix.ensures in
    let turned : ◌≡◌ {A = ℤ} (pos 0 -ℤ c.args.low) (neg_ℤ (in_column c.args.rows.now c.args.column c.args.y.now)) = omega (arith, ints) in
    let value : c.mix.result ≡ paired c.args.rows.now c.args.column c.args.x.now c.args.y.now = mixed_so
    ∙ (ap (λ (z : ℤ). mixed z c.args.x.now c.args.high c.args.y.now) turned
    ∙ ap (λ (z : ℤ). mixed (neg_ℤ (in_column c.args.rows.now c.args.column c.args.y.now)) c.args.x.now z c.args.y.now) c.requires.high.1) in
    let high : pos 0 <ℤ in_column c.args.rows.now c.args.column c.args.x.now = omega (arith, ints) in
    let low : in_column c.args.rows.now c.args.column c.args.y.now <ℤ pos 0 = omega (arith, ints) in
    subst (IsDerived c.args.rows.now (c.args.column + 1)) (sym value)
    (rw add-one (derived_pair c.args.rows.now c.args.column c.args.x.now c.args.y.now c.requires.column c.requires.high.0 c.requires.low.0 high low))
