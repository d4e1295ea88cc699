use Rattle.std.proofs.Common.{◌≡◌, ◌≤◌, length}
use Rattle.clause_chain.specs.Chaining.{clauses_of}
use Rattle.rules_resolution.specs.Idle.{AllIdleBelow}
use Rattle.rules_resolution.specs.Scans.{Reaches}
use Rattle.rules_resolution.proofs.few.look_at_each.Given as goal

-- where no unit was found, the premises so far are idle
abbrev pub invariant-loop-premise : goal.invariant-loop-premise
invariant-loop-premise l =
    Reaches (clauses_of l.premises) l.initial.units.items l.initial.falses.items l.units.items l.falses.items
    × (l.before ≤ length l.units.items)
    × (length l.units.items ≡ l.before → AllIdleBelow (clauses_of l.premises) l.falses.items l.premise)
