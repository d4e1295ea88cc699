-- Private. What each rule asks of the coefficients and the clause of a step that has no premise.
use Rattle.std.specs.Prelude.{List, [], Option, None}
use Rattle.line_judging.specs.declared.judging.Absurdity.{Absurdity}
use Rattle.linear_forms.specs.declared.forms.OneForm.{OneForm}
use Rattle.term_parts.specs.declared.answers.Answer.{Answer}
use Rattle.term_model.specs.Terms.{Term}
use Rattle.rule_model.specs.declared.kinds.Family.{Family}
use Rattle.rule_model.specs.declared.kinds.Kind.{Kind}
use Rattle.rule_model.specs.declared.rules.Rule.{Rule}
use Rattle.rule_model.specs.Arith.{MeetsFormSimplification, IsWideFormSimplification, MeetsLaGeneric, IsWideLaGeneric}
use Rattle.rule_model.specs.Conditions.{row_of}
use Rattle.rule_model.specs.Proofs.{Fraction}
use Rattle.rule_model.specs.RuleNames.{kind_of}
use Rattle.rule_model.specs.Schemas.{Schema, IsInstanceOf}

-- the schema that the table of rules has of a rule of this family
abbrev pub if_arithmetic : Kind → Option Schema → Option Schema
if_arithmetic (Kind.Judged Family.Arith) schema = schema
if_arithmetic kind schema = None

abbrev pub arithmetic_schema_of : Rule → Option Schema
arithmetic_schema_of rule = if_arithmetic (kind_of rule) (row_of rule).schema

abbrev pub MeetsArithmetic : Rule → Option (List Fraction) → List Term → Type 0
MeetsArithmetic Rule.LaGeneric ratios clause = MeetsLaGeneric ratios [] clause
MeetsArithmetic Rule.SumSimplify ratios clause = MeetsFormSimplification [] clause
MeetsArithmetic Rule.ProdSimplify ratios clause = MeetsFormSimplification [] clause
MeetsArithmetic Rule.MinusSimplify ratios clause = MeetsFormSimplification [] clause
MeetsArithmetic Rule.UnaryMinusSimplify ratios clause = MeetsFormSimplification [] clause
MeetsArithmetic rule ratios clause = IsInstanceOf (arithmetic_schema_of rule) [] clause

abbrev pub IsWideArithmetic : Rule → Option (List Fraction) → List Term → Type 0
IsWideArithmetic Rule.LaGeneric ratios clause = IsWideLaGeneric ratios [] clause
IsWideArithmetic Rule.SumSimplify ratios clause = IsWideFormSimplification [] clause
IsWideArithmetic Rule.ProdSimplify ratios clause = IsWideFormSimplification [] clause
IsWideArithmetic Rule.MinusSimplify ratios clause = IsWideFormSimplification [] clause
IsWideArithmetic Rule.UnaryMinusSimplify ratios clause = IsWideFormSimplification [] clause
IsWideArithmetic rule ratios clause = ⊥

-- the answer by whether two sides have one form, and by whether lines are absurd
abbrev pub form_answer : OneForm → Answer
form_answer OneForm.Yes = Answer.Met
form_answer OneForm.No = Answer.NotMet
form_answer OneForm.TooWide = Answer.TooWide

abbrev pub absurd_answer : Absurdity → Answer
absurd_answer Absurdity.Yes = Answer.Met
absurd_answer Absurdity.No = Answer.NotMet
absurd_answer Absurdity.TooWide = Answer.TooWide
