use Rattle.proof_prune.specs.Pruning.{state_of, job_of}
use Rattle.proof_prune.proofs.Going.{way_init, way_done}
use Rattle.proof_prune.proofs.pruning.enter.Goals as goal

pub scopes-init : goal.scopes-init
scopes-init c = way_init (job_of c.args.parts.now) c.args.i (state_of c.args.written.now) c.requires.within c.requires.written

pub returns : goal.returns
returns c =
    way_done (job_of c.args.parts.now) c.requires.job c.args.i (state_of c.scopes.written) c.scopes.invariant
    (let a = c.inner-last.ensures in let t = c.scopes-test.false in omega Rattle.std.proofs.Common.arith)
