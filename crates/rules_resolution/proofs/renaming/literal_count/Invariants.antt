use Rattle.std.proofs.Common.{◌≡◌, ◌+◌, ◌*◌, ◌≤◌, length, take}
use Rattle.clause_chain.specs.Chaining.{clauses_of}
use Rattle.rules_resolution.specs.Renaming.{joined_clauses}
use Rattle.rules_resolution.proofs.renaming.literal_count.Given as goal

abbrev pub invariant-loop-clause : goal.invariant-loop-clause
invariant-loop-clause l =
    (l.count ≡ length (joined_clauses (clauses_of (take l.clause-index l.premises))) + length l.goal)
    × (l.count ≤ length l.goal + l.clause-index * 4294967296)
