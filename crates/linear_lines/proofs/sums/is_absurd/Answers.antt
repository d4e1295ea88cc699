-- By the coefficients of references.
use Rattle.std.proofs.Common.{◌≡◌, ◌<ℤ◌, ℤ, pos, false, inl, inr, to_z, of_z, refl, sym, ap, ◌∙◌, arith}
use Rattle.std.proofs.lemmas.Bool.{false≢true}
use Rattle.std.specs.Int.{w128}
use Rattle.std.specs.Int.Signed.{lt_z}
use Rattle.std.proofs.lemmas.Int.{ints}
use Rattle.linear_lines.proofs.SumLemmas.{references_cancel, terms_cancel, equations_are}
use Rattle.linear_lines.proofs.sums.is_absurd.Goals as goal

pub returns-then-not-cancels : goal.returns-then-not-cancels
returns-then-not-cancels c s v m ls zip sum =
    (λ e. absurd (false≢true e), λ ab. sym c.if-not-cancels.true ∙ c.cancels.ensures.1 (terms_cancel s v c.args.sum.now.items _ sum.coefficients ab.cancelled))

pub returns-then-bound-gt0 : goal.returns-then-bound-gt0
returns-then-bound-gt0 c s v m ls zip sum =
    let test = c.if-bound-gt0.true in
    let over : pos 0 <ℤ c.args.bound = grind (arith, ints) in
    (λ e. record { cancelled = references_cancel s v c.args.sum.now.items _ sum.coefficients (c.cancels.ensures.0 c.if-not-cancels.false); absurd_bound = inl over }, λ ab. refl)

not_over : (b : ℤ) → pos 0 <ℤ b → lt_z (pos 0) b ≡ false → ⊥
not_over b h e = absurd (grind (arith, ints))

pub returns : goal.returns
returns c s v m ls zip sum =
    let same : ◌≡◌ {A = ℤ} (to_z w128 (of_z w128 c.args.bound)) c.args.bound = omega (arith, ints) in
    let lines = equations_are s v c.args.lines.now ls zip in (
      λ e. record {
        cancelled = references_cancel s v c.args.sum.now.items _ sum.coefficients (c.cancels.ensures.0 c.if-not-cancels.false);
        absurd_bound = inr (lines.0 (c.are_equations.ensures.0 e), λ z. c.if-bound-eq0.false (ap (of_z w128) z));
      },
      λ ab.
          elim ab.absurd_bound [
            | inl over ↦ absurd (not_over c.args.bound over (ap (λ x. lt_z (pos 0) x) (sym same) ∙ c.if-bound-gt0.false))
            | inr both ↦ c.are_equations.ensures.1 (lines.1 both.0)
          ],
    )
