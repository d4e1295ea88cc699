use Rattle.std.proofs.Common.{arith, ap, sym, ◌∙◌}
use Rattle.rules_resolution.specs.Falsity.{is_false_in}
use Rattle.rules_resolution.proofs.Progresses.{contradiction_found, no_contradiction_found}
use Rattle.rules_resolution.proofs.few.contradicts_itself.Goals as goal

pub returns-then-is_false : goal.returns-then-is_false
returns-then-is_false c =
    contradiction_found c.args.goal.now c.loop-literal.literal-index _ c.loop-literal-test.true
    (sym (ap (is_false_in c.args.goal.now) c.negate.ensures) ∙ (sym c.is_false.ensures ∙ c.if-is_false.true))

pub returns : goal.returns
returns c = no_contradiction_found c.args.goal.now (λ k h. c.loop-literal.invariant k (omega (arith, h)))
