-- What the rules of this family ask of a step.
use Rattle.std.proofs.Common.{◌≡◌, ◌≢◌, ◌↔◌, List, [], length, Bool, IsTrue, Option, Some, None, refl, sym, subst}
use Rattle.sym_table.specs.Table.{Table}
use Rattle.term_model.specs.Terms.{Term}
use Rattle.term_parts.proofs.JudgingLemmas.{tells_if, tells_same}
use Rattle.term_parts.specs.Judging.{Tells, TellsEach, met_if}
use Rattle.term_parts.specs.declared.answers.Answer.{Answer}
use Rattle.term_parts.specs.declared.steps.Step.{Step}
use Rattle.term_pool.specs.Views.{TermsView, ReferToAll}
use Rattle.rule_model.specs.declared.kinds.Family.{Family}
use Rattle.rule_model.specs.declared.kinds.Kind.{Kind}
use Rattle.rule_model.specs.declared.rules.Rule.{Rule}
use Rattle.rule_model.specs.Arith.{MeetsFormSimplification, IsWideFormSimplification}
use Rattle.rule_model.specs.Conditions.{MeetsRule, Met, IsTooWide, IsTooWideBy}
use Rattle.rule_model.specs.Judged.{Judged}
use Rattle.rule_model.specs.Proofs.{Fraction}
use Rattle.rule_model.specs.RuleNames.{kind_of}
use Rattle.rule_model.specs.Schemas.{Schema, IsInstance}
use Rattle.schema_match.specs.declared.instances.SchemaParts.{SchemaParts}
use Rattle.schema_match.specs.Schemas.{AreSchemaParts, HasParts}
use Rattle.schema_match.proofs.PremiseLemmas.{no_premises, some_premises}
use Rattle.rules_arith.specs.Answers.{StandsWithRatios}
use Rattle.rules_arith.specs.Steps.{arithmetic_schema_of, MeetsArithmetic, IsWideArithmetic}

abbrev pub IsArith : Rule → Type 0
IsArith rule = kind_of rule ≡ Kind.Judged Family.Arith

-- a rule that has a schema, and one that has none
pub schema_tells : (rule : Rule) (ratios : Option (List Fraction)) (parts : SchemaParts) (ts : List Term) (b : Bool) →
    AreSchemaParts (arithmetic_schema_of rule) (Some parts) → ((of : Schema) → HasParts of.premises of.clause parts → IsTrue b ↔ IsInstance of [] ts) →
    Tells (met_if b) (IsWideArithmetic rule ratios ts) (MeetsArithmetic rule ratios ts)
schema_tells Rule.LaDisequality ratios parts ts b are test = tells_if b (λ h. h) (test _ are)
schema_tells Rule.LaTotality ratios parts ts b are test = tells_if b (λ h. h) (test _ are)
schema_tells Rule.LaRwEq ratios parts ts b are test = tells_if b (λ h. h) (test _ are)
schema_tells _ ratios parts ts b are test = absurd are

pub form_rule_tells : (rule : Rule) (ratios : Option (List Fraction)) (ts : List Term) (a : Answer) →
    IsArith rule → rule ≢ Rule.LaGeneric → AreSchemaParts (arithmetic_schema_of rule) None →
    Tells a (IsWideFormSimplification [] ts) (MeetsFormSimplification [] ts) →
    Tells a (IsWideArithmetic rule ratios ts) (MeetsArithmetic rule ratios ts)
form_rule_tells Rule.SumSimplify ratios ts a is other are tells = tells
form_rule_tells Rule.ProdSimplify ratios ts a is other are tells = tells
form_rule_tells Rule.MinusSimplify ratios ts a is other are tells = tells
form_rule_tells Rule.UnaryMinusSimplify ratios ts a is other are tells = tells
form_rule_tells Rule.LaDisequality ratios ts a is other are tells = absurd are
form_rule_tells Rule.LaTotality ratios ts a is other are tells = absurd are
form_rule_tells Rule.LaRwEq ratios ts a is other are tells = absurd are
form_rule_tells Rule.LaGeneric ratios ts a is other are tells = absurd (other refl)
form_rule_tells _ ratios ts a is other are tells = absurd cc

-- a rule of this family asks what its case asks, and that there is no premise
rule_meets : (rule : Rule) (j : Judged) → IsArith rule → j.premises ≡ [] → MeetsArithmetic rule j.ratios j.clause ↔ MeetsRule rule j
rule_meets Rule.LaDisequality j is none = rw none (λ h. h, λ h. h)
rule_meets Rule.LaTotality j is none = rw none (λ h. h, λ h. h)
rule_meets Rule.LaRwEq j is none = rw none (λ h. h, λ h. h)
rule_meets Rule.LaGeneric j is none = rw none (λ h. h, λ h. h)
rule_meets Rule.SumSimplify j is none = rw none (λ h. h, λ h. h)
rule_meets Rule.ProdSimplify j is none = rw none (λ h. h, λ h. h)
rule_meets Rule.MinusSimplify j is none = rw none (λ h. h, λ h. h)
rule_meets Rule.UnaryMinusSimplify j is none = rw none (λ h. h, λ h. h)
rule_meets _ j is none = absurd cc

rule_wide : (rule : Rule) (j : Judged) → IsArith rule → j.premises ≡ [] → IsWideArithmetic rule j.ratios j.clause ↔ IsTooWideBy rule j
rule_wide Rule.LaDisequality j is none = (λ h. h, λ h. h)
rule_wide Rule.LaTotality j is none = (λ h. h, λ h. h)
rule_wide Rule.LaRwEq j is none = (λ h. h, λ h. h)
rule_wide Rule.LaGeneric j is none = rw none (λ h. h, λ h. h)
rule_wide Rule.SumSimplify j is none = rw none (λ h. h, λ h. h)
rule_wide Rule.ProdSimplify j is none = rw none (λ h. h, λ h. h)
rule_wide Rule.MinusSimplify j is none = rw none (λ h. h, λ h. h)
rule_wide Rule.UnaryMinusSimplify j is none = rw none (λ h. h, λ h. h)
rule_wide _ j is none = absurd cc

-- no rule of this family takes a premise
premised_meets_none : (rule : Rule) (j : Judged) → IsArith rule → j.premises ≢ [] → Tells Answer.NotMet (IsTooWideBy rule j) (MeetsRule rule j)
premised_meets_none Rule.LaDisequality j is some = (λ h. h, λ h. some h.units)
premised_meets_none Rule.LaTotality j is some = (λ h. h, λ h. some h.units)
premised_meets_none Rule.LaRwEq j is some = (λ h. h, λ h. some h.units)
premised_meets_none Rule.LaGeneric j is some = (λ h. some h.form.none, λ h. some h.form.none)
premised_meets_none Rule.SumSimplify j is some = (λ h. some h.sides.none, λ h. some h.sides.none)
premised_meets_none Rule.ProdSimplify j is some = (λ h. some h.sides.none, λ h. some h.sides.none)
premised_meets_none Rule.MinusSimplify j is some = (λ h. some h.sides.none, λ h. some h.sides.none)
premised_meets_none Rule.UnaryMinusSimplify j is some = (λ h. some h.sides.none, λ h. some h.sides.none)
premised_meets_none _ j is some = absurd cc

module _ {s : Table} {v : TermsView} {step : Step} {qs : Option (List Fraction)} (is : IsArith step.rule) where
  by_rule : (a : Answer) (j : Judged) → StandsWithRatios s v step qs j → Tells a (IsTooWideBy step.rule j) (MeetsRule step.rule j) →
      Tells a (IsTooWide j) (Met j)
  by_rule a j stands tells = subst (λ r. Tells a (IsTooWideBy r j) (MeetsRule r j)) (sym stands.step.rule) tells

  pub premised_tells : length step.premises.now ≢ 0 → TellsEach (StandsWithRatios s v step qs) Answer.NotMet
  premised_tells some j stands =
      by_rule Answer.NotMet j stands (premised_meets_none step.rule j is (some_premises s v step.premises.now j.premises some stands.step.premises))

  -- what is told of all terms of its clause is told of a step that has no premise
  pub plain_tells : (a : Answer) → length step.premises.now ≡ 0 →
      ((ts : List Term) → ReferToAll s v step.clause.now ts → Tells a (IsWideArithmetic step.rule qs ts) (MeetsArithmetic step.rule qs ts)) →
      TellsEach (StandsWithRatios s v step qs) a
  plain_tells a none told j stands =
      let no_premise = no_premises s v step.premises.now j.premises none stands.step.premises in
      let here = subst (λ x. Tells a (IsWideArithmetic step.rule x j.clause) (MeetsArithmetic step.rule x j.clause)) (sym stands.ratios)
      (told j.clause stands.step.clause) in
      by_rule a j stands (tells_same a (rule_wide step.rule j is no_premise) (rule_meets step.rule j is no_premise) here)
