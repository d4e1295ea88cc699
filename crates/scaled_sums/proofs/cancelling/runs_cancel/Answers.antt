-- Runs follow one another.
use Rattle.std.proofs.Common.{◌≡◌, ◌≢◌, ℕ, ◌+◌, ◌<◌, ◌^◌, ℤ, pos, ◌+ℤ◌, to_z, of_z, List, [], ◌∷◌, nat_eq, drop, sym, subst, ap, ◌∙◌, arith}
use Rattle.std.specs.Int.{w128}
use Rattle.std.proofs.lemmas.Bool.{eqb-true, eq-eqb, false≢true}
use Rattle.std.proofs.lemmas.Int.{ints, of_z-to_z}
use Rattle.std.proofs.lemmas.List.{drop_more, drop_all}
use Rattle.scaled_sums.specs.declared.coefficients.Coefficient.{Coefficient}
use Rattle.scaled_sums.specs.Runs.{IsRunOfTerm}
use Rattle.scaled_sums.proofs.Runs.{run_starts, run_goes_on, run_begins, run_is_left, run_ends}
use Rattle.scaled_sums.proofs.cancelling.runs_cancel.Goals as goal
use Rattle.scaled_sums.proofs.cancelling.runs_cancel.Goals.{then-number-current+else-so_far-ne0, else-number-current}

zero_bits : (n : ℕ) → n < 2 ^ 128 → to_z w128 n ≡ pos 0 → n ≡ 0
zero_bits n h e = sym (of_z-to_z w128 n h) ∙ ap (of_z w128) e

pub loop-c-init : goal.loop-c-init
loop-c-init c = run_starts c.args.sum.now c.requires.rising

pub returns-then-so_far-ne0 : goal.returns-then-so_far-ne0
returns-then-so_far-ne0 c =
    let rest = drop (c.loop-c.c-index + 1) c.args.sum.now in
    let next : ◌≡◌ {A = List Coefficient} (drop c.loop-c.c-index c.args.sum.now) (c.c-item.result ∷ rest) =
    drop_more c.args.sum.now c.loop-c.c-index c.c-item.result c.loop-c-test.true ∙ ap (λ x. x ∷ rest) (sym c.c-item.is) in
    let z = to_z w128 c.loop-c.so_far-bits in
    let run : IsRunOfTerm c.args.sum.now c.loop-c.current z (c.c-item.result ∷ rest) =
    subst (IsRunOfTerm c.args.sum.now c.loop-c.current z) next c.loop-c.invariant in
    let other : c.c-item.result.term ≢ c.loop-c.current = λ e. c.if-number-current.true (c.number.ensures.number ∙ e) in
    let some : z ≢ pos 0 = λ e. c.if-so_far-ne0.true (zero_bits c.loop-c.so_far-bits c.loop-c.auto.so_far.fits e) in
    (λ e. absurd (false≢true e), λ all. absurd (run_is_left c.args.sum.now c.loop-c.current z c.c-item.result rest run other some all))

pub loop-c-preserved : goal.loop-c-preserved
loop-c-preserved c =
    let rest = drop (c.loop-c.c-index + 1) c.args.sum.now in
    let next : ◌≡◌ {A = List Coefficient} (drop c.loop-c.c-index c.args.sum.now) (c.c-item.result ∷ rest) =
    drop_more c.args.sum.now c.loop-c.c-index c.c-item.result c.loop-c-test.true ∙ ap (λ x. x ∷ rest) (sym c.c-item.is) in
    let z = to_z w128 c.loop-c.so_far-bits in
    let run : IsRunOfTerm c.args.sum.now c.loop-c.current z (c.c-item.result ∷ rest) =
    subst (IsRunOfTerm c.args.sum.now c.loop-c.current z) next c.loop-c.invariant in
    let narrow = run.narrow in
    let small = c.requires.narrow in
    let same : ◌≡◌ {A = ℤ} (to_z w128 (of_z w128 (z +ℤ to_z w128 (of_z w128 c.c-item.result.number)))) (z +ℤ c.c-item.result.number) = omega (arith, ints, narrow, small) in
    subst (λ x. IsRunOfTerm c.args.sum.now c.if-number-current.current x rest) (sym same)
    (elim c.if-number-current.branch [
      | then-number-current+else-so_far-ne0 w ↦ (
          let nothing = w.if-so_far-ne0.false in
          let none : z ≡ pos 0 = omega (arith, ints, nothing) in
          subst (λ x. IsRunOfTerm c.args.sum.now x (z +ℤ c.c-item.result.number) rest) (sym (w.current-is ∙ w.number-current.ensures.number))
          (run_begins c.args.sum.now c.loop-c.current z c.c-item.result rest run none))
      | else-number-current w ↦ (
          subst (λ x. IsRunOfTerm c.args.sum.now x (z +ℤ c.c-item.result.number) rest) (sym w.current-is)
          (run_goes_on c.args.sum.now c.loop-c.current z c.c-item.result rest run (sym c.number.ensures.number ∙ w.if-number-current.false)))
    ])

pub returns : goal.returns
returns c =
    let z = to_z w128 c.loop-c.so_far-bits in
    let run : IsRunOfTerm c.args.sum.now c.loop-c.current z [] =
    subst (IsRunOfTerm c.args.sum.now c.loop-c.current z) (drop_all c.loop-c.c-index c.args.sum.now c.loop-c-test.false) c.loop-c.invariant in
    run_ends c.args.sum.now c.loop-c.current z (nat_eq c.loop-c.so_far-bits 0) run
    (λ e. omega (arith, ints, eqb-true c.loop-c.so_far-bits 0 e), λ e. eq-eqb c.loop-c.so_far-bits 0 (zero_bits c.loop-c.so_far-bits c.loop-c.auto.so_far.fits e))
