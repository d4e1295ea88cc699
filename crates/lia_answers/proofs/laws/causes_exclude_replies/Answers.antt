use Rattle.lia_answers.proofs.Replies.{not_both}
use Rattle.lia_answers.proofs.laws.causes_exclude_replies.Goals as goal

pub returns : goal.returns
returns c = not_both c.texts_have_one_reading.ensures.script
