use Rattle.rule_model.specs.declared.kinds.Family.{Family}
use Rattle.schema_match.proofs.StepTerms.{truths_are_sorted}
use Rattle.term_parts.proofs.JudgingLemmas.{sound_of, tells_of}
use Rattle.rules_congruence.specs.Rules.{MeetsEquality}
use Rattle.rules_congruence.proofs.StepLemmas.{asks}
use Rattle.rules_congruence.proofs.checks.meets.Goals as goal

pub meets_equality-requires-clause-clause : goal.meets_equality-requires-clause-clause
meets_equality-requires-clause-clause c = truths_are_sorted c.args.step.clause.now c.requires.step.clause

pub returns-clause-met : goal.returns-clause-met
returns-clause-met c =
    rw c.answer_of.ensures (tells_of MeetsEquality Family.Congruence c.in_ok-met.met (λ e. cc) c.requires.family asks c.in_ok-met.ensures.met)

pub returns-clause-sound : goal.returns-clause-sound
returns-clause-sound c =
    rw c.answer_of.ensures
    (sound_of _ _ c.conditions_keep_truth.ensures
    (tells_of MeetsEquality Family.Congruence c.in_ok-met.met (λ e. cc) c.requires.family asks c.in_ok-met.ensures.met))
