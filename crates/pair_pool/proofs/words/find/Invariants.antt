use Rattle.pair_pool.proofs.ProbeLemmas.{IsProbing}
use Rattle.pair_pool.proofs.words.find.Given as goal

abbrev pub invariant-probe : goal.invariant-probe
invariant-probe l = IsProbing l.words l.start l.wanted l.at l.counter
