-- What a step comes to by what the crates of the families tell of it.
use Rattle.std.proofs.Common.{◌≡◌, ◌≢◌, ℕ, true, false, Option, Some, None, refl, sym, subst}
use Rattle.std.specs.Option.{is_some}
use Rattle.std.specs.Prelude.{All}
use Rattle.sym_table.specs.Table.{Table}
use Rattle.term_model.specs.Terms.{Var, Term}
use Rattle.term_pool.specs.Views.{TermsView, IsTerm}
use Rattle.term_parts.specs.Judging.{IsStepOf, StandsForStep, Tells}
use Rattle.term_parts.specs.declared.answers.Answer.{Answer}
use Rattle.term_parts.specs.declared.steps.Step.{Step}
use Rattle.proof_contexts.specs.OpenAnchors.{AreOpenIn, scope_of}
use Rattle.proof_contexts.specs.declared.scopes.OpenScopes.{OpenScopes}
use Rattle.proof_store.specs.Meaning.{StandForItems}
use Rattle.rule_model.specs.declared.kinds.Family.{Family}
use Rattle.rule_model.specs.declared.kinds.Kind.{Kind}
use Rattle.rule_model.specs.declared.rules.Mode.{Mode}
use Rattle.rule_model.specs.declared.rules.Rule.{Rule}
use Rattle.rule_model.specs.Conditions.{IsClauseOfTruths, IsMetAt, IsTooWide, IsTooWideAt, IsTooWideWhere, MeetsWhere, Met, MeetsClosing}
use Rattle.rule_model.specs.Judged.{Judged, anchors_at, judged_at}
use Rattle.rule_model.specs.Proofs.{ProofItems}
use Rattle.rule_model.specs.Reading.{rule_at, closes_at, scope_at}
use Rattle.rule_model.specs.RuleNames.{kind_of}
use Rattle.rules_refl.specs.Steps.{StandsInScope}
use Rattle.step_check.specs.Steps.{IsStepAt}

-- no rule but those of closings is met by a step that closes a scope
no_closing : (mode : Mode) (proof : ProofItems Var Term) (i k : ℕ) (rule : Rule) → MeetsClosing mode rule proof i k → kind_of rule ≡ Kind.Judged Family.Subproof
no_closing mode proof i k Rule.Subproof met = refl
no_closing mode proof i k Rule.Let met = refl
no_closing mode proof i k _ met = absurd met

module _ (mode : Mode) (proof : ProofItems Var Term) (i : ℕ) where
  abbrev TellsWhere : Answer → Option ℕ → Type 0
  TellsWhere answer o = Tells answer (IsTooWideWhere mode proof i o) (MeetsWhere mode proof i o)

  -- a step that closes nothing comes to what is said of what it looks at
  pub answer_there : (answer : Answer) → closes_at proof i ≡ None → Tells answer (IsTooWide (judged_at mode proof i)) (Met (judged_at mode proof i)) →
      Tells answer (IsTooWideAt mode proof i) (IsMetAt mode proof i)
  answer_there answer none told = subst (TellsWhere answer) (sym none) told

  not_closed : (family : Family) (k : ℕ) → family ≢ Family.Subproof → kind_of (rule_at proof i) ≡ Kind.Judged family →
      ¬ MeetsClosing mode (rule_at proof i) proof i k
  not_closed family k other is met = other (let e = no_closing mode proof i k (rule_at proof i) met in cc)

  -- one that closes a scope meets no rule but those of closings
  pub closing_is_not_met : (family : Family) → family ≢ Family.Subproof → kind_of (rule_at proof i) ≡ Kind.Judged family →
      (o : Option ℕ) → is_some o ≡ true → o ≡ closes_at proof i → Tells Answer.NotMet (IsTooWideAt mode proof i) (IsMetAt mode proof i)
  closing_is_not_met family other is None some same = absurd cc
  closing_is_not_met family other is (Some k) some same = subst (TellsWhere Answer.NotMet) same (λ wide. wide, not_closed family k other is)

pub none_is : (o : Option ℕ) → is_some o ≡ false → o ≡ None
none_is None e = refl
none_is (Some k) e = absurd cc

module _ {s : Table} {v : TermsView} where
  -- a step whose clause is of terms of Bool
  pub step_is : {step : Step} (j : Judged) → StandsForStep s v step j → IsClauseOfTruths j.clause → All (λ p. All (IsTerm s v) p.now) step.premises.now →
      IsStepOf s v step
  step_is j stands truths premises = record { premises = premises; clause = record { clause = j.clause; refer = stands.clause; truths = truths } }

  -- one in the scope of a proof that was entered last
  pub in_scope : {step : Step} (refs : ProofItems ℕ ℕ) (of : ProofItems Var Term) (i : ℕ) (mode : Mode) (scopes : OpenScopes) → StandForItems s v refs of →
      IsStepAt mode refs i step → scope_of scopes ≡ scope_at of i → AreOpenIn of (scope_at of i) (anchors_at of i) →
      StandsInScope s v refs scopes step (judged_at mode of i)
  in_scope refs of i mode scopes stand is here are_open = record {
    anchors = record { proof = of; stand = stand; are_open = subst (λ k. AreOpenIn of k (anchors_at of i)) (sym here) are_open };
    step = is s v of stand;
  }
