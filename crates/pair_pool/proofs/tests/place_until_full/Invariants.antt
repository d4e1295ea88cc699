use Rattle.pair_pool.specs.Views.{IsPassOf}
use Rattle.pair_pool.proofs.tests.place_until_full.Given as goal

abbrev pub invariant-pairs : goal.invariant-pairs
invariant-pairs l = IsPassOf l.pool l.pass
