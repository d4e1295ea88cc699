-- What a check returns for a step that closes a scope, or closes none.
use Rattle.std.proofs.Common.{◌≡◌, ◌≢◌, ◌↔◌, ℕ, Bool, IsTrue, Some, None, refl, sym, subst}
use Rattle.term_model.specs.Terms.{Var, Term}
use Rattle.rule_model.specs.declared.kinds.Family.{Family}
use Rattle.rule_model.specs.declared.kinds.Kind.{Kind}
use Rattle.rule_model.specs.declared.rules.Mode.{Mode}
use Rattle.rule_model.specs.declared.rules.Rule.{Rule}
use Rattle.rule_model.specs.Conditions.{MeetsRule, MeetsWhere, IsMetAt, IsTooWideAt, IsTooWideWhere, MeetsClosing}
use Rattle.rule_model.specs.Judged.{Judged, judged_at}
use Rattle.rule_model.specs.Proofs.{ProofItems}
use Rattle.rule_model.specs.Reading.{rule_at, closes_at}
use Rattle.rule_model.specs.RuleNames.{kind_of}
use Rattle.term_parts.proofs.JudgingLemmas.{is_narrow, tells_if}
use Rattle.term_parts.specs.Judging.{Tells, met_if}
use Rattle.term_parts.specs.declared.answers.Answer.{Answer}

abbrev pub IsClosingRule : Rule → Type 0
IsClosingRule rule = kind_of rule ≡ Kind.Judged Family.Subproof

-- no rule of the family is left, and without a scope to close they have no condition that a step meets
pub none_left : (rule : Rule) → IsClosingRule rule → rule ≢ Rule.Subproof → rule ≢ Rule.Let → ⊥
none_left Rule.Subproof is no_subproof no_let = no_subproof refl
none_left Rule.Let is no_subproof no_let = no_let refl
none_left _ is no_subproof no_let = absurd cc

no_rule : (rule : Rule) (j : Judged) → IsClosingRule rule → ¬ MeetsRule rule j
no_rule Rule.Subproof j is h = h
no_rule Rule.Let j is h = h
no_rule _ j is h = absurd cc

module _ (mode : Mode) (of : ProofItems Var Term) (i : ℕ) where
  pub none_closed : IsClosingRule (rule_at of i) → closes_at of i ≡ None → Tells Answer.NotMet (IsTooWideAt mode of i) (IsMetAt mode of i)
  none_closed closing none = (
    subst (λ o. ¬ IsTooWideWhere mode of i o) (sym none) (is_narrow (rule_at of i) Family.Subproof (judged_at mode of i) (λ e. cc) closing),
    subst (λ o. ¬ MeetsWhere mode of i o) (sym none) (no_rule (rule_at of i) (judged_at mode of i) closing),
  )

  pub closing_tells : (rule : Rule) (k : ℕ) (b : Bool) → rule_at of i ≡ rule → closes_at of i ≡ Some k → IsTrue b ↔ MeetsClosing mode rule of i k →
      Tells (met_if b) (IsTooWideAt mode of i) (IsMetAt mode of i)
  closing_tells rule k b is closes test =
      let by_rule = subst (λ r. IsTrue b ↔ MeetsClosing mode r of i k) (sym is) test in
      tells_if b (subst (λ o. ¬ IsTooWideWhere mode of i o) (sym closes) (λ wide. wide))
      (subst (λ o. IsTrue b ↔ MeetsWhere mode of i o) (sym closes) by_rule)
