use Rattle.std.proofs.Common.{◌+◌, ◌-◌}
use Rattle.proof_prune.specs.Pruning.{state_of, job_of, IsOnWay}
use Rattle.proof_prune.proofs.pruning.enter.Given as goal

abbrev pub invariant-scopes : goal.invariant-scopes
invariant-scopes l = IsOnWay (job_of l.parts) l.i (state_of l.written)

abbrev pub decreases-scopes : goal.decreases-scopes
decreases-scopes l = (l.last + 1) - l.written.opened
