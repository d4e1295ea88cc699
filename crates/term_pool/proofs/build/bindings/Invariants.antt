use Rattle.std.proofs.Common.{◌≤◌, length, drop}
use Rattle.pair_pool.specs.Views.{IsPassOf}
use Rattle.term_pool.proofs.BuildingLemmas.{IsBindingsSoFar}
use Rattle.term_pool.proofs.build.bindings.Given as goal

abbrev pub invariant-bindings : goal.invariant-bindings
invariant-bindings l =
    (l.at ≤ length l.vars) × IsPassOf l.pool l.pass × IsBindingsSoFar l.fn.pass.view l.pass.view (drop l.at l.vars) (drop l.at l.values) l.list

abbrev pub decreases-bindings : goal.decreases-bindings
decreases-bindings l = l.at
