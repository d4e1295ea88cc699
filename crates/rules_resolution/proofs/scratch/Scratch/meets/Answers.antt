use Rattle.term_parts.proofs.JudgingLemmas.{sound_of}
use Rattle.rules_resolution.proofs.TermAnswers.{told_by_test}
use Rattle.rules_resolution.proofs.scratch.Scratch.meets.Goals as goal

pub returns-clause-met : goal.returns-clause-met
returns-clause-met c =
    rw c.answer_of.ensures (told_by_test c.args.step c.args.pivots.now c.requires.family c.in_ok-met.met c.in_ok-met.ensures.resolves)

pub returns-clause-sound : goal.returns-clause-sound
returns-clause-sound c = sound_of _ _ c.conditions_keep_truth.ensures (returns-clause-met c)
