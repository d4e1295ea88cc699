use Rattle.std.proofs.Common.{◌≡◌, take}
use Rattle.term_model.specs.Terms.{Var, Term}
use Rattle.rule_model.specs.Proofs.{ProofItems}
use Rattle.proof_store.specs.Meaning.{StandForItems}
use Rattle.rules_subproof.specs.Lets.{clauses_at}
use Rattle.rules_subproof.specs.SideTables.{TellsSides}
use Rattle.rules_subproof.proofs.sides.sides_of_premises.Given as goal

abbrev pub invariant-premises : goal.invariant-premises
invariant-premises l =
    (l.terms ≡ l.fn.terms) ×
    ((of : ProofItems Var Term) → StandForItems l.fn.symbols l.fn.terms l.proof of →
    TellsSides l.fn.symbols l.fn.terms l.table.keys (clauses_at of (take l.premise-index l.premises)))
