use Rattle.std.proofs.Common.{arith}
use Rattle.rules_subproof.proofs.Deeper.{inside_on}
use Rattle.rules_subproof.proofs.assumes.begin_of.Goals as goal

pub halves-preserved : goal.halves-preserved
halves-preserved c =
    let within = c.halves.invariant.0 in
    let some = c.halves-test.true in (
      grind arith,
      inside_on c.args.proof.now c.args.end c.args.scope c.requires.closes _ (grind arith)
          (let other = c.if-scope_of-scope.false in let is = c.scope_of.ensures in omega arith),
    )
