use Rattle.std.proofs.Common.{length}
use Rattle.text_items.proofs.one_pass.+mark.Given as goal

abbrev pub decreases-mark : goal.decreases-mark
decreases-mark l = length l.known.now
