use Rattle.pair_pool.specs.Views.{IsPassOf}
use Rattle.std.proofs.Common.{◌≡◌, ◌-◌, ◌^◌}
use Rattle.term_pool.proofs.NotLemmas.{IsNotsSoFar}
use Rattle.term_pool.proofs.nots.strip.Given as goal

abbrev pub invariant-nots : goal.invariant-nots
invariant-nots l = (l.pass.view ≡ l.fn.pass.view) × IsNotsSoFar l.fn.pass.view l.not l.fn.r l.nots l.bare × IsPassOf l.pool l.pass

abbrev pub decreases-nots : goal.decreases-nots
decreases-nots l = 2 ^ 31 - l.nots
