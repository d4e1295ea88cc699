use Rattle.std.proofs.Common.{◌++◌, List, take, subst, arith}
use Rattle.std.proofs.lemmas.List.{take_all}
use Rattle.rules_resolution.specs.Literal.{Lit}
use Rattle.rules_resolution.specs.Work.{IsState}
use Rattle.rules_resolution.proofs.Progresses.{falsifies_more, advances_trans}
use Rattle.rules_resolution.proofs.follow.falsify_all.Goals as goal

pub falsify-requires-clause-state : goal.falsify-requires-clause-state
falsify-requires-clause-state c =
    let some = c.requires.state in
    (some.0, some.1, some.2 ++ take c.loop-literal.literal-index c.args.goal.now, c.loop-literal.invariant.0 some.0 some.1 some.2 some.3)

pub loop-literal-preserved : goal.loop-literal-preserved
loop-literal-preserved c = (
  falsifies_more c.args.goal.now c.loop-literal.literal-index _ c.args.table.now _ _ _ _ _ _ c.loop-literal-test.true c.loop-literal.invariant.0 c.in_ok-falsify.ensures.falsifies,
  advances_trans _ _ _ _ _ _ c.loop-literal.invariant.1 c.in_ok-falsify.ensures.advances,
)

pub returns-clause-falsifies : goal.returns-clause-falsifies
returns-clause-falsifies c premises conclusion falses state =
    let all = take_all c.loop-literal.literal-index c.args.goal.now (omega arith) in
    subst (λ (ls : List Lit). IsState premises conclusion (falses ++ ls) c.args.table.now c.loop-literal.work.marks.items c.loop-literal.work.standings.items) all
    (c.loop-literal.invariant.0 premises conclusion falses state)
