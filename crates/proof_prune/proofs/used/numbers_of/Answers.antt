use Rattle.proof_prune.proofs.Listing.{no_numbers}
use Rattle.proof_prune.proofs.used.numbers_of.Goals as goal

pub marks-init : goal.marks-init
marks-init c = rw c.new-numbers.ensures.items (no_numbers c.args.marks.now)
