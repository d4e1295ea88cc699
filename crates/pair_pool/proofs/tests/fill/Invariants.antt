use Rattle.pair_pool.specs.Views.{IsPassOf}
use Rattle.pair_pool.proofs.tests.fill.Given as goal

abbrev pub invariant-pairs : goal.invariant-pairs
invariant-pairs g l = IsPassOf l.pool l.pass
