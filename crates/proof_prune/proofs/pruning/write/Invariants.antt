use Rattle.proof_prune.specs.Order.{written_to}
use Rattle.proof_prune.specs.Pruning.{state_of, job_of, IsWrittenTo}
use Rattle.proof_prune.proofs.pruning.write.Given as goal

abbrev pub invariant-commands : goal.invariant-commands
invariant-commands l = IsWrittenTo (job_of l.parts) (written_to l.parts.proof.now l.i) (state_of l.written)
