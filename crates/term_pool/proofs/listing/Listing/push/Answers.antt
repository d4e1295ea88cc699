use Rattle.std.proofs.Common.{arith}
use Rattle.term_pool.proofs.NumberingLemmas.{few_cells}
use Rattle.term_pool.proofs.listing.Listing.push.Goals as goal

pub overflow_cast-number : goal.overflow_cast-number
overflow_cast-number c =
    let few = few_cells c.args.self.now.met c.requires.numbering in
    let count = c.count-number.ensures in
    omega arith
