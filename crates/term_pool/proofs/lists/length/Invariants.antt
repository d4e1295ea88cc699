use Rattle.pair_pool.specs.Views.{IsPassOf}
use Rattle.std.proofs.Common.{◌≡◌, ◌-◌, ◌^◌}
use Rattle.term_pool.proofs.PassLemmas.{IsCounted}
use Rattle.term_pool.proofs.lists.length.Given as goal

abbrev pub invariant-items : goal.invariant-items
invariant-items l = (l.pass.view ≡ l.fn.pass.view) × IsCounted l.fn.pass.view l.fn.list l.rest l.count × IsPassOf l.pool l.pass

abbrev pub decreases-items : goal.decreases-items
decreases-items l = 2 ^ 31 - l.count
