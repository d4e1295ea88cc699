use Rattle.std.proofs.Common.{◌≡◌, inl, inr, ℕ, [], refl, subst}
use Rattle.rule_model.specs.declared.statuses.Verdict.{Verdict}
use Rattle.judged_texts.specs.declared.judgement.Judgement.{Judgement}
use Rattle.judged_texts.specs.declared.judgement.Judgement.TheVariants.{Valid, Holey, NoEmptyClause, Faulty, TooWide, RefusedProblem, RefusedProof, PoolFull}
use Rattle.judged_texts.specs.Judgement.{IsJudgement}
use Rattle.judged_texts.specs.Printed.{status_of_judgement}
use Rattle.output_laws.specs.Again.{SaysSo}
use Rattle.output_laws.proofs.laws.pruned_texts_are_said_valid.Goals as goal

-- what ends with the status of a valid proof
by_status : (j : Judgement) → status_of_judgement j ≡ 0 → j ≡ Valid
by_status Valid e = refl
by_status (Holey holes) e = absurd (cc)
by_status NoEmptyClause e = absurd (cc)
by_status (Faulty id cause) e = absurd (cc)
by_status (TooWide id) e = absurd (cc)
by_status (RefusedProblem r) e = absurd (cc)
by_status (RefusedProof r) e = absurd (cc)
by_status PoolFull e = absurd (cc)

with_room : (j : Judgement) → SaysSo 0 [] j → (j ≡ PoolFull → ⊥) → j ≡ Valid
with_room j (inl full) room = absurd (room full)
with_room j (inr is) room = by_status j is.0

pub returns-clause-said : goal.returns-clause-said
returns-clause-said c = λ problem options proof bytes out bits j apart check judged.
    c.checks_say_one_thing.ensures problem options bytes Verdict.Valid [] 0 bits j
    (c.pruned_texts_are_valid.ensures.again problem options proof bytes out apart check) refl judged

pub returns-clause-valid : goal.returns-clause-valid
returns-clause-valid c = λ problem options proof bytes out bits j apart check judged room.
    with_room j (returns-clause-said c problem options proof bytes out bits j apart check judged)
    (λ full. room (subst (IsJudgement problem options bytes bits) full judged))
