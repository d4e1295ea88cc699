use Rattle.std.proofs.Common.{◌+◌, ◌-◌, length}
use Rattle.elaborator.specs.Reached.{state_of, job_of, IsOnWay}
use Rattle.elaborator.proofs.opening.enter.Given as goal

abbrev pub invariant-scopes : goal.invariant-scopes
invariant-scopes l = IsOnWay (job_of l.parts) l.i (state_of l.written)

abbrev pub decreases-scopes : goal.decreases-scopes
decreases-scopes l = (l.last + 1) - length l.written.opened.items
