-- By sums over rows and over columns.
use Rattle.lia_filler.proofs.Refuting.{refuted}
use Rattle.lia_filler.proofs.laws.combinations_refute.Goals as goal

pub returns : goal.returns
returns c = refuted
