use Rattle.std.proofs.Common.{◌≡◌, ◌<◌, ◌^◌, vec_len, take, All}
use Rattle.clause_chain.specs.Chaining.{clauses_of}
use Rattle.rules_resolution.proofs.decide.own_clauses.Given as goal

abbrev pub invariant-loop-clause : goal.invariant-loop-clause
invariant-loop-clause l =
    (clauses_of l.own.items ≡ clauses_of (take l.clause-index l.clauses)) × All (λ clause. vec_len clause < 2 ^ 32) l.own.items
