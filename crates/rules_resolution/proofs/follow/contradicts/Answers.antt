use Rattle.std.proofs.Common.{arith, ap, sym, ◌∙◌}
use Rattle.rules_resolution.specs.Falsity.{is_false_in}
use Rattle.rules_resolution.proofs.Progresses.{alone_from_call, alone_more, contradiction_found, no_contradiction_found}
use Rattle.rules_resolution.proofs.follow.contradicts.Goals as goal

pub loop-literal-preserved : goal.loop-literal-preserved
loop-literal-preserved c =
    alone_more c.args.goal.now c.loop-literal.literal-index c.loop-literal.invariant
    (alone_from_call c.args.goal.now c.args.table.now c.loop-literal.literal-index _ c.negate.result c.requires.goal c.loop-literal-test.true c.negate.ensures
    (λ some. c.is_falsified.ensures.no c.args.goal.now c.requires.marks some c.if-is_falsified.false))

pub returns-then-is_falsified : goal.returns-then-is_falsified
returns-then-is_falsified c =
    contradiction_found c.args.goal.now c.loop-literal.literal-index _ c.loop-literal-test.true
    (sym (ap (is_false_in c.args.goal.now) c.negate.ensures) ∙ c.is_falsified.ensures.yes c.args.goal.now c.requires.marks c.if-is_falsified.true)

pub returns : goal.returns
returns c = no_contradiction_found c.args.goal.now (λ k h. c.loop-literal.invariant k (omega (arith, h)))
