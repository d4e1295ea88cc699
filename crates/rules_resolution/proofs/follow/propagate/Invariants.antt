use Rattle.std.proofs.Common.{◌+◌, length}
use Rattle.clause_chain.specs.Chaining.{clauses_of}
use Rattle.rules_resolution.specs.Standing.{total_of}
use Rattle.rules_resolution.specs.Progress.{IsProgress}
use Rattle.rules_resolution.proofs.follow.propagate.Given as goal

abbrev pub invariant-loop-premise : goal.invariant-loop-premise
invariant-loop-premise l =
    IsProgress (clauses_of l.premises) l.goal l.units.items l.table l.work.marks.items l.work.standings.items l.work.ready.items (length (clauses_of l.premises))

-- each look takes a premise from those that are ready, and each that becomes so has lost a literal
abbrev pub decreases-loop-premise : goal.decreases-loop-premise
decreases-loop-premise l = length l.work.ready.items + total_of l.work.standings.items
