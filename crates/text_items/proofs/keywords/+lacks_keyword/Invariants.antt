use Rattle.std.proofs.Common.{length}
use Rattle.text_items.proofs.keywords.+lacks_keyword.Given as goal

abbrev pub decreases-lacks_keyword : goal.decreases-lacks_keyword
decreases-lacks_keyword l = length l.known.now
