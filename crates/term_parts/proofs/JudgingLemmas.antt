-- Cited by crates above. From what a family of rules asks of clauses to what its answer tells of the steps for which references
-- stand.
use Rattle.std.proofs.Common.{◌≡◌, ◌≢◌, ◌↔◌, ℕ, List, Bool, true, false, All, IsTrue, refl, sym, ap, ◌∙◌, subst}
use Rattle.sym_table.specs.Table.{Table}
use Rattle.term_model.specs.Terms.{Term}
use Rattle.term_pool.specs.Views.{TermsView, IsTerm}
use Rattle.term_pool.proofs.References.{refer_are_terms}
use Rattle.rule_model.specs.declared.kinds.Family.{Family}
use Rattle.rule_model.specs.declared.kinds.Kind.{Kind}
use Rattle.rule_model.specs.declared.rules.Mode.{Mode}
use Rattle.rule_model.specs.declared.rules.Rule.{Rule}
use Rattle.rule_model.specs.Conditions.{AlwaysKeepsTruth, IsTooWide, IsTooWideBy, Met}
use Rattle.rule_model.specs.Judged.{Judged}
use Rattle.rule_model.specs.RuleNames.{kind_of}
use Rattle.term_parts.specs.Judging.{StandForTruths, StandsForStep, KeepsTruthOfEach, Tells, TellsEach, TestsClauses, met_if}
use Rattle.term_parts.specs.declared.answers.Answer.{Answer}
use Rattle.term_parts.specs.declared.steps.Step.{Step}

-- only rules of arithmetic have numbers
wide_is_arith : (rule : Rule) (j : Judged) → IsTooWideBy rule j → kind_of rule ≡ Kind.Judged Family.Arith
wide_is_arith Rule.SumSimplify j wide = refl
wide_is_arith Rule.ProdSimplify j wide = refl
wide_is_arith Rule.MinusSimplify j wide = refl
wide_is_arith Rule.UnaryMinusSimplify j wide = refl
wide_is_arith Rule.LaGeneric j wide = refl
wide_is_arith _ j wide = absurd wide

pub is_narrow : (rule : Rule) (family : Family) (j : Judged) → family ≢ Family.Arith → kind_of rule ≡ Kind.Judged family → ¬ IsTooWideBy rule j
is_narrow rule family j other is wide = other (let e = wide_is_arith rule j wide in cc)

-- what the answer by a test tells
pub tells_if : {W M : Type 0} (b : Bool) → ¬ W → IsTrue b ↔ M → Tells (met_if b) W M
tells_if true none test = (none, test.0 refl)
tells_if false none test = (none, λ m. let e = test.1 m in absurd cc)

-- an answer says the same of what is the same
pub tells_same : {W V M N : Type 0} (a : Answer) → W ↔ V → M ↔ N → Tells a W M → Tells a V N
tells_same Answer.TooWide w m h = w.0 h
tells_same Answer.Met w m h = (λ v. h.0 (w.1 v), m.0 h.1)
tells_same Answer.NotMet w m h = (λ v. h.0 (w.1 v), λ n. h.1 (m.1 n))

-- the clause of a step that is met is true where its premises are
pub sound_of : (Is : Judged → Type 0) (a : Answer) → ((j : Judged) → Met j → AlwaysKeepsTruth j) → TellsEach Is a → KeepsTruthOfEach Is a
sound_of Is a keeps tells e j is =
    let told = subst (λ b. Tells b (IsTooWide j) (Met j)) e (tells j is) in keeps j told.1

module _ {s : Table} {v : TermsView} where
  -- a test of what the rules of a family ask of clauses tells of each step whether it is met
  pub tells_of : {step : Step} (Asks : Mode → Rule → List (List Term) → List Term → Type 0) (family : Family) (b : Bool) →
      family ≢ Family.Arith → kind_of step.rule ≡ Kind.Judged family →
      ((j : Judged) → kind_of j.rule ≡ Kind.Judged family → Met j ↔ Asks j.mode j.rule j.premises j.clause) →
      TestsClauses s v step (Asks step.mode step.rule) b → TellsEach (StandsForStep s v step) (met_if b)
  tells_of {step} Asks family b other is asks test j stands =
      let kind = ap kind_of stands.rule ∙ is in
      let told = test j.premises j.clause stands.premises stands.clause in
      let by_mode = subst (λ m. IsTrue b ↔ Asks m step.rule j.premises j.clause) (sym stands.mode) told in
      let by_rule = subst (λ r. IsTrue b ↔ Asks j.mode r j.premises j.clause) (sym stands.rule) by_mode in
      let condition = asks j kind in
      tells_if b (is_narrow j.rule family j other kind) (λ h. condition.1 (by_rule.0 h), λ h. by_rule.1 (condition.0 h))

  pub truths_are_terms : (rs : List ℕ) → StandForTruths s v rs → All (IsTerm s v) rs
  truths_are_terms rs are = refer_are_terms s v rs are.clause are.refer
