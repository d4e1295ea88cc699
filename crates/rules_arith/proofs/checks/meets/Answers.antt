use Rattle.std.proofs.Common.{length, sym, ◌∙◌}
use Rattle.std.proofs.lemmas.Bool.{eqb-true, eq-eqb}
use Rattle.std.proofs.lemmas.Result.{IfOk-weaker}
use Rattle.schema_match.proofs.StepTerms.{truths_are_sorted}
use Rattle.term_parts.proofs.JudgingLemmas.{sound_of}
use Rattle.rules_arith.proofs.CheckLemmas.{premised_tells, plain_tells}
use Rattle.rules_arith.proofs.checks.meets.Goals as goal

pub returns-then-not-is_empty-clause-met : goal.returns-then-not-is_empty-clause-met
returns-then-not-is_empty-clause-met c =
    premised_tells c.requires.family
    (λ empty. absurd (let f = eq-eqb (length c.args.step.premises.now) 0 empty in
    let g = c.is_empty.ensures in let h = c.if-not-is_empty.true in cc))

pub judged-requires-clause-clause : goal.judged-requires-clause-clause
judged-requires-clause-clause c = truths_are_sorted c.args.step.clause.now c.requires.step.clause

pub returns-clause-met : goal.returns-clause-met
returns-clause-met c =
    let none = eqb-true (length c.args.step.premises.now) 0 (sym c.is_empty.ensures ∙ c.if-not-is_empty.false) in
    IfOk-weaker c.judged.result _ _ (λ a told. plain_tells c.requires.family a none told) c.judged.ensures.tells

pub returns-clause-sound : goal.returns-clause-sound
returns-clause-sound c =
    let none = eqb-true (length c.args.step.premises.now) 0 (sym c.is_empty.ensures ∙ c.if-not-is_empty.false) in
    IfOk-weaker c.judged.result _ _ (λ a told. sound_of _ a c.conditions_keep_truth.ensures (plain_tells c.requires.family a none told))
    c.judged.ensures.tells
