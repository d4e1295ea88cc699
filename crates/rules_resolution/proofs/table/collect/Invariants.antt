use Rattle.std.proofs.Common.{◌≡◌, take}
use Rattle.clause_chain.specs.Chaining.{clauses_of}
use Rattle.rules_resolution.specs.Table.{occurrences_in}
use Rattle.rules_resolution.proofs.table.collect.Given as goal

abbrev pub invariant-loop-premise : goal.invariant-loop-premise
invariant-loop-premise l = l.found.items ≡ occurrences_in 0 (clauses_of (take l.premise l.premises))
