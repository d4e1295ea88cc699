use Rattle.output_laws.proofs.Saying.{says_so}
use Rattle.output_laws.proofs.laws.checks_say_one_thing.Goals as goal

pub returns : goal.returns
returns c = λ problem options proof v rules status bits j known is h.
    says_so c.texts_have_one_reading.ensures.script c.proof_texts_have_one_reading.ensures.proof c.statuses_are_unique.ensures.status
    c.statuses_are_unique.ensures.verdict c.texts_have_one_reading.ensures.not_both c.proof_texts_have_one_reading.ensures.not_both problem options proof v
    rules status bits known is j h
