use Rattle.std.proofs.Common.{◌≡◌, map, take}
use Rattle.rule_model.specs.Reading.{clause_at}
use Rattle.proof_store.proofs.premises.premise_clauses.Given as goal

abbrev pub invariant-premises : goal.invariant-premises
invariant-premises l = map (λ p. p.now) l.list.items ≡ map (clause_at l.proof) (take l.premise-index l.premises)
