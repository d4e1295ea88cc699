use Rattle.filled_texts.proofs.OneRun.{same_filled}
use Rattle.filled_texts.proofs.laws.replies_define_what_is_filled.Goals as goal

pub returns : goal.returns
returns c = same_filled
