use Rattle.std.proofs.Common.{◌≡◌, ℕ, ◌<◌}
use Rattle.term_model.specs.Terms.{Var, Term}
use Rattle.rule_model.specs.Proofs.{ProofItems}
use Rattle.rule_model.specs.Reading.{clause_at, discharged_at}
use Rattle.proof_store.specs.Meaning.{StandForItems}
use Rattle.rules_subproof.proofs.Prefixes.{Matches}
use Rattle.rules_subproof.proofs.negations.begins_with_negations.Given as goal

abbrev pub invariant-discharged : goal.invariant-discharged
invariant-discharged l =
    (l.terms ≡ l.fn.terms) ×
    ((of : ProofItems Var Term) → StandForItems l.fn.symbols l.fn.terms l.proof of →
    (k : ℕ) → k < l.place → Matches (clause_at of) (discharged_at of l.i) (clause_at of l.i) k)
