use Rattle.std.proofs.Common.{arith}
use Rattle.proof_prune.proofs.ClosedOnce.{closers_whole}
use Rattle.proof_prune.proofs.closers.closers_of.Goals as goal

pub returns : goal.returns
returns c =
    closers_whole c.args.proof.now c.commands.i _ c.commands.invariant
    (let n = c.count-i-end.ensures.count in let t = c.commands-test.false in omega arith)
