-- By lines, by a schema, or by linear forms.
use Rattle.std.proofs.Common.{[], sym, subst}
use Rattle.std.proofs.lemmas.Result.{IfOk-weaker}
use Rattle.proof_store.specs.Ratios.{fractions}
use Rattle.term_parts.specs.Judging.{Tells}
use Rattle.rules_arith.specs.Steps.{MeetsArithmetic, IsWideArithmetic}
use Rattle.rules_arith.proofs.CheckLemmas.{schema_tells, form_rule_tells}
use Rattle.rules_arith.proofs.FormLemmas.{sorted_are_terms}
use Rattle.rules_arith.proofs.checks.judged.Goals as goal

pub is_instance-requires-clause-clause : goal.is_instance-requires-clause-clause
is_instance-requires-clause-clause c = sorted_are_terms c.args.symbols.now c.args.terms.now c.args.step.clause.now c.requires.clause

pub returns-in_default-arithmetic_schema-clause-tells : goal.returns-in_default-arithmetic_schema-clause-tells
returns-in_default-arithmetic_schema-clause-tells c =
    IfOk-weaker c.judged_form.result _ _
    (λ a test ts refer.
    form_rule_tells c.args.step.rule (fractions c.args.ratios) ts a c.requires.family c.in_default.not-LaGeneric
    c.in_default-arithmetic_schema.ensures (test ts refer))
    c.judged_form.ensures.tells

pub returns-clause-tells : goal.returns-clause-tells
returns-clause-tells c ts refer =
    let rule = c.args.step.rule in
    let qs = fractions c.args.ratios in
    subst (λ a. Tells a (IsWideArithmetic rule qs ts) (MeetsArithmetic rule qs ts)) (sym c.answer_of.ensures)
    (schema_tells rule qs c.in-Some.parts ts c.in_ok-met.met c.in-Some.ensures
    (λ of has. c.in_ok-met.ensures.instance of [] ts has tt refer))
