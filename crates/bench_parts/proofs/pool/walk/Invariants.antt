use Rattle.pair_pool.specs.Views.{IsPassOf, IsKnown}
use Rattle.bench_parts.proofs.pool.walk.Given as goal

abbrev pub invariant-links : goal.invariant-links
invariant-links l = IsPassOf l.pool l.pass × IsKnown l.pass.view l.r
