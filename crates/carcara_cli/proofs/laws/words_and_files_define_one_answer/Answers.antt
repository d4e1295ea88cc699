use Rattle.carcara_cli.proofs.OneAnswer.{one_answer}
use Rattle.carcara_cli.proofs.laws.words_and_files_define_one_answer.Goals as goal

pub returns : goal.returns
returns c =
    one_answer c.texts_have_one_reading.ensures.script c.texts_have_one_reading.ensures.fault c.texts_have_one_reading.ensures.not_both
    c.proof_texts_have_one_reading.ensures.proof c.proof_texts_have_one_reading.ensures.fault c.proof_texts_have_one_reading.ensures.not_both
    c.statuses_are_unique.ensures.status c.statuses_are_unique.ensures.verdict
