use Rattle.pair_pool.specs.Views.{IsPassOf}
use Rattle.pair_pool.proofs.tests.sums_agree.Given as goal

abbrev pub invariant-more : goal.invariant-more
invariant-more g l = IsPassOf l.pool l.pass
