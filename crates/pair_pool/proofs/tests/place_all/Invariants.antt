use Rattle.std.proofs.Common.{◌≡◌}
use Rattle.pair_pool.specs.Views.{IsPassOf}
use Rattle.pair_pool.proofs.tests.place_all.Given as goal

abbrev pub invariant-pairs : goal.invariant-pairs
invariant-pairs l = IsPassOf l.pool l.pass × (l.pass.view.shares ≡ l.fn.pass.view.shares)
