use Rattle.std.proofs.Common.{◌≡◌, length, take}
use Rattle.clause_chain.specs.Chaining.{clauses_of}
use Rattle.rules_resolution.specs.Renaming.{joined_clauses}
use Rattle.rules_resolution.specs.Naming.{keys_from}
use Rattle.rules_resolution.proofs.naming.keys_of.Given as goal

abbrev pub invariant-loop-clause : goal.invariant-loop-clause
invariant-loop-clause l =
    (l.keys.items ≡ keys_from 0 (joined_clauses (clauses_of (take l.clause-index l.premises))))
    × (l.from ≡ length (joined_clauses (clauses_of (take l.clause-index l.premises))))
