use Rattle.reread_laws.proofs.LowLines.{printed_low}
use Rattle.reread_laws.proofs.laws.low_proofs_are_printed_low.Goals as goal

pub returns : goal.returns
returns c = printed_low
