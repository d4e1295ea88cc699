use Rattle.rule_model.specs.declared.kinds.Family.{Family}
use Rattle.term_parts.proofs.JudgingLemmas.{sound_of, tells_of}
use Rattle.rules_ite.specs.Steps.{MeetsDefinition}
use Rattle.rules_ite.proofs.CheckLemmas.{asks}
use Rattle.rules_ite.proofs.checks.meets.Goals as goal

pub returns-clause-met : goal.returns-clause-met
returns-clause-met c =
    rw c.answer_of.ensures
    (tells_of (λ _. MeetsDefinition) Family.Ite c.in_ok-met.met (λ e. cc) c.requires.family asks c.in_ok-met.ensures.meets)

pub returns-clause-sound : goal.returns-clause-sound
returns-clause-sound c =
    rw c.answer_of.ensures
    (sound_of _ _ c.conditions_keep_truth.ensures
    (tells_of (λ _. MeetsDefinition) Family.Ite c.in_ok-met.met (λ e. cc) c.requires.family asks c.in_ok-met.ensures.meets))
