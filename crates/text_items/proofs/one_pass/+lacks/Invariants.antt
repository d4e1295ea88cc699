use Rattle.std.proofs.Common.{length}
use Rattle.text_items.proofs.one_pass.+lacks.Given as goal

abbrev pub decreases-lacks : goal.decreases-lacks
decreases-lacks l = length l.known.now
