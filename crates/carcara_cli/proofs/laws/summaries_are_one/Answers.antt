use Rattle.proof_gen.specs.Texts.{problem_text, proof_text}
use Rattle.generated_texts.specs.Summaries.{no_options}
use Rattle.carcara_cli.proofs.OneAnswer.{one_summary, only_full}
use Rattle.carcara_cli.proofs.laws.summaries_are_one.Goals as goal

pub returns : goal.returns
returns c = record {
  status = λ n a b h k. (one_summary c.texts_have_one_reading.ensures.script c.texts_have_one_reading.ensures.fault c.texts_have_one_reading.ensures.not_both
      c.proof_texts_have_one_reading.ensures.proof c.proof_texts_have_one_reading.ensures.fault c.proof_texts_have_one_reading.ensures.not_both
      c.statuses_are_unique.ensures.status c.statuses_are_unique.ensures.verdict
      (problem_text n) no_options (proof_text n) c.cells_are_counted_once.ensures a b h k).0;
  text = λ n a b h k. (one_summary c.texts_have_one_reading.ensures.script c.texts_have_one_reading.ensures.fault c.texts_have_one_reading.ensures.not_both
      c.proof_texts_have_one_reading.ensures.proof c.proof_texts_have_one_reading.ensures.fault c.proof_texts_have_one_reading.ensures.not_both
      c.statuses_are_unique.ensures.status c.statuses_are_unique.ensures.verdict
      (problem_text n) no_options (proof_text n) c.cells_are_counted_once.ensures a b h k).1;
  instead = λ n bits s j h k. only_full c.texts_have_one_reading.ensures.script c.texts_have_one_reading.ensures.fault c.texts_have_one_reading.ensures.not_both
      c.proof_texts_have_one_reading.ensures.proof c.proof_texts_have_one_reading.ensures.fault c.proof_texts_have_one_reading.ensures.not_both
      c.statuses_are_unique.ensures.status c.statuses_are_unique.ensures.verdict
      (problem_text n) no_options (proof_text n) bits s j h k;
}
