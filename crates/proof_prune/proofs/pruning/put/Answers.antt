use Rattle.std.proofs.Common.{sym, ◌∙◌}
use Rattle.proof_prune.specs.Pruning.{state_of, job_of}
use Rattle.proof_prune.proofs.Putting.{dropped_now}
use Rattle.proof_prune.proofs.pruning.put.Goals as goal

pub returns-else-is_marked : goal.returns-else-is_marked
returns-else-is_marked c =
    dropped_now (job_of c.args.parts.now) c.requires.job c.args.i (state_of c.args.written.now) c.requires.at_line (sym c.is_marked.ensures ∙ c.if-is_marked.false)
