use Rattle.std.proofs.Common.{◌≡◌, ◌<◌, ◌^◌, ◌++◌, length, vec_len, take, drop, All}
use Rattle.clause_chain.specs.Chaining.{clauses_of}
use Rattle.rules_resolution.specs.Renaming.{renamed_in, joined_clauses}
use Rattle.rules_resolution.proofs.renaming.rename_all.Given as goal

abbrev pub invariant-loop-k : goal.invariant-loop-k
invariant-loop-k l =
    (clauses_of l.premises ≡ renamed_in l.names 0 (clauses_of (take l.k l.initial.premises)) ++ clauses_of (drop l.k l.initial.premises))
    × (l.from ≡ length (joined_clauses (clauses_of (take l.k l.initial.premises))))
    × All (λ clause. vec_len clause < 2 ^ 32) l.premises
