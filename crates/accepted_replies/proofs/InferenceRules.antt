-- Private. The steps of a reply have rules that their words name.
use Rattle.std.proofs.Common.{[], ℕ, inr, refl}
use Rattle.rule_model.specs.declared.kinds.Family.{Family}
use Rattle.rule_model.specs.declared.rules.Rule.{Rule}
use Rattle.rule_model.specs.RuleNames.{kind_of, IsJudged}
use Rattle.rule_model.specs.WellFormed.{HasRule}
use Rattle.proof_store.specs.AddedSteps.{AddedStep}
use Rattle.elaborator.specs.Steps.{added_step}
use Rattle.elaborator.proofs.AddedRules.{added_rule}
use Rattle.accepted_replies.specs.Replies.{Inference, inferring, resolving, MayInfer}

-- a step by a rule with a condition, that concludes nothing
abbrev alone : Rule → AddedStep
alone rule = record { rule = rule; clause = []; premises = []; pivots = [] }

named_so : (rule : Rule) → IsJudged (kind_of rule) → HasRule (added_step [] 0 (alone rule) [] [])
named_so rule judged = added_rule [] 0 (alone rule) [] [] judged (inr refl)

pub inferring_has_rule : {T : Type 0} (index : ℕ) (x : Inference T) → MayInfer x → HasRule (inferring index x)
inferring_has_rule index x may =
    let named = named_so x.rule may.judged in
    record { named = named.named; symbol = named.symbol; kept = named.kept; pivots = inr refl; ratios = may.ratios; lowest = may.lowest }

pub resolving_has_rule : {T : Type 0} (count : ℕ) → HasRule (resolving {T = T} count)
resolving_has_rule count =
    let named = named_so Rule.Resolution (record { family = Family.Resolution; is = refl }) in
    record { named = named.named; symbol = named.symbol; kept = named.kept; pivots = inr refl; ratios = inr refl; lowest = tt }
