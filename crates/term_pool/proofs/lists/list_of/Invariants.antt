use Rattle.std.proofs.Common.{◌≤◌, length, drop}
use Rattle.pair_pool.specs.Views.{IsPassOf}
use Rattle.term_pool.proofs.BuildingLemmas.{IsListSoFar}
use Rattle.term_pool.proofs.lists.list_of.Given as goal

abbrev pub invariant-items : goal.invariant-items
invariant-items l = (l.at ≤ length l.items) × IsPassOf l.pool l.pass × IsListSoFar l.fn.pass.view l.pass.view (drop l.at l.items) l.list

abbrev pub decreases-items : goal.decreases-items
decreases-items l = l.at
