use Rattle.std.proofs.Common.{◌≡◌, map, take}
use Rattle.clause_chain.specs.Chaining.{clauses_of}
use Rattle.rules_resolution.specs.Standing.{blank_of}
use Rattle.rules_resolution.proofs.standing.blanks.Given as goal

abbrev pub invariant-loop-clause : goal.invariant-loop-clause
invariant-loop-clause l = l.standings.items ≡ map blank_of (clauses_of (take l.clause-index l.premises))
