use Rattle.std.proofs.Common.{arith}
use Rattle.term_reader.proofs.repeats.pair_name.Goals as goal

pub overflow_add-k : goal.overflow_add-k
overflow_add-k c = omega (arith, c.requires.inside, c.count-count.ensures)
