use Rattle.alethe_text.proofs.OtherLimits.{text_within}
use Rattle.alethe_text.proofs.laws.proofs_are_read_alike_within_limits.Goals as goal

pub returns : goal.returns
returns c = text_within
