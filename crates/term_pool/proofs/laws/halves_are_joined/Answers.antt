use Rattle.term_pool.proofs.HalfLemmas.{halves_keep}
use Rattle.term_pool.proofs.laws.halves_are_joined.Goals as goal

pub returns : goal.returns
returns c = halves_keep
