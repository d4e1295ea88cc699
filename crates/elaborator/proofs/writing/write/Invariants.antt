use Rattle.elaborator.specs.Reached.{state_of, job_of, IsReached, written_to}
use Rattle.elaborator.proofs.writing.write.Given as goal

abbrev pub invariant-commands : goal.invariant-commands
invariant-commands l = IsReached (job_of l.parts) (written_to l.parts.proof.now l.i) (state_of l.written)
