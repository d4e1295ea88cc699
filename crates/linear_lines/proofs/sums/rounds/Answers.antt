-- An inequality whose coefficients are whole.
use Rattle.std.proofs.Common.{◌≡◌, ◌↔◌, ℕ, ℤ, ◌*ℤ◌, IsTrue, to_z, of_z, subst, arith}
use Rattle.std.specs.Int.{w128}
use Rattle.std.proofs.lemmas.Int.{ints}
use Rattle.rule_model.specs.Arith.{IsWhole}
use Rattle.scaled_sums.specs.Coefficients.{sum_at}
use Rattle.linear_lines.proofs.SumLemmas.{no_equation}
use Rattle.linear_lines.proofs.sums.rounds.Goals as goal

pub returns-in_default : goal.returns-in_default
returns-in_default c =
    let same : ◌≡◌ {A = ℤ} (to_z w128 (of_z w128 c.args.factor)) c.args.factor = omega (arith, ints) in
    let told : IsTrue c.are_whole.result ↔ ((r : ℕ) → IsWhole c.args.multiple (c.args.factor *ℤ sum_at c.args.form.now r)) =
    subst (λ x. IsTrue c.are_whole.result ↔ ((r : ℕ) → IsWhole c.args.multiple (x *ℤ sum_at c.args.form.now r))) same c.are_whole.ensures in
    (λ e. (no_equation c.args.relation c.in_default.not-Equals, told.0 e), λ p. told.1 p.1)
