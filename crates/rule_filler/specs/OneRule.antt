-- Public. The first way to show a clause: a step by the first rule that the clause meets alone, without premises.
use Rattle.std.specs.Prelude.{◌≡◌, ◌≢◌, List, [], map, Some, None}
use Rattle.term_model.specs.Terms.{Var, Term, not_of}
use Rattle.rule_model.specs.declared.rules.Rule.{Rule}
use Rattle.rule_model.specs.Proofs.{ProofItems}
use Rattle.accepted_replies.specs.Replies.{Inference, reply_of}
use Rattle.lone_rules.specs.LoneRules.{IsLoneRuleOf}

-- what the step infers, of terms or of references
abbrev pub inferred : {T : Type 0} → Rule → List T → Inference T
inferred rule clause = record { rule = rule; clause = clause; ratios = None }

-- the proof: it assumes the negations of the clause's literals, has the step by the rule, and resolves these to the empty clause
abbrev pub proof_by : Rule → List Term → ProofItems Var Term
proof_by rule clause = reply_of (map not_of clause) (inferred rule clause)

-- the clause has a literal, and the proof is that by the first rule which it meets alone
pub record IsShownByRule (clause : List Term) (proof : ProofItems Var Term) : Type 0 where
  pub some : clause ≢ []
  pub rule : Rule
  pub first : IsLoneRuleOf clause (Some rule)
  pub by_rule : proof ≡ proof_by rule clause
