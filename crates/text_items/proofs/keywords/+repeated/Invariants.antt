use Rattle.std.proofs.Common.{length}
use Rattle.text_items.proofs.keywords.+repeated.Given as goal

abbrev pub decreases-repeated : goal.decreases-repeated
decreases-repeated l = length l.known.now
