use Rattle.carcara_cli.proofs.OneAnswer.{own_text_says}
use Rattle.carcara_cli.proofs.laws.own_texts_say_what_checks_say.Goals as goal

pub returns : goal.returns
returns c =
    own_text_says c.texts_have_one_reading.ensures.script c.texts_have_one_reading.ensures.fault c.texts_have_one_reading.ensures.not_both
    c.proof_texts_have_one_reading.ensures.proof c.proof_texts_have_one_reading.ensures.fault c.proof_texts_have_one_reading.ensures.not_both
    c.statuses_are_unique.ensures.status c.statuses_are_unique.ensures.verdict
