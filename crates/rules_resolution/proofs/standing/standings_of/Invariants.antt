use Rattle.std.proofs.Common.{ℕ, [], ◌+◌, ◌*◌, ◌≤◌, take}
use Rattle.clause_chain.specs.Chaining.{clauses_of}
use Rattle.rules_resolution.specs.Standing.{IsTallied, open_at, places_at}
use Rattle.rules_resolution.proofs.standing.standings_of.Given as goal

abbrev pub invariant-loop-occurrence : goal.invariant-loop-occurrence
invariant-loop-occurrence l =
    IsTallied (clauses_of l.premises) [] (take l.occurrence-index l.table) l.standings.items
    × ((p : ℕ) → open_at l.standings.items p ≤ l.occurrence-index + 2)
    × ((p : ℕ) → places_at l.standings.items p ≤ l.occurrence-index * 4294967296)
