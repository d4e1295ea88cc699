use Rattle.proof_prune.specs.Pruning.{state_of, job_of}
use Rattle.proof_prune.proofs.Putting.{within_now}
use Rattle.proof_prune.proofs.pruning.put_kept.Goals as goal

pub is_assumed-requires : goal.is_assumed-requires
is_assumed-requires c = within_now (job_of c.args.parts.now) c.requires.job c.args.i (state_of c.args.written.now) c.requires.at_line
