use Rattle.std.proofs.Common.{◌↔◌, List, drop}
use Rattle.rule_model.specs.Resolution.{Joins}
use Rattle.clause_chain.specs.Chaining.{clauses_of}
use Rattle.clause_chain.specs.declared.signed_term.SignedTerm.{SignedTerm}
use Rattle.clause_chain.proofs.following.goes_through.Given as goal

abbrev pub invariant-place : goal.invariant-place
invariant-place l =
    (clause : List SignedTerm) → Joins l.fn.chain (clauses_of l.premises) l.pivots clause
    ↔ Joins l.chain (clauses_of (drop l.place l.premises)) (drop l.place l.pivots) clause
