use Rattle.pair_pool.specs.Views.{IsPassOf}
use Rattle.bench_parts.proofs.pool.pairs.Given as goal

abbrev pub invariant-pairs : goal.invariant-pairs
invariant-pairs l = IsPassOf l.pool l.pass
