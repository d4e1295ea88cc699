use Rattle.pair_pool.specs.Views.{IsPassOf}
use Rattle.std.proofs.Common.{◌≡◌, ◌+◌, ◌-◌, ◌^◌, length}
use Rattle.term_pool.proofs.ListLemmas.{IsCollected}
use Rattle.term_pool.proofs.lists.items.Given as goal

abbrev pub invariant-items : goal.invariant-items
invariant-items l = (l.pass.view ≡ l.fn.pass.view) × IsCollected l.fn.pass.view l.fn.list l.rest l.fn.into.items l.into.items × IsPassOf l.pool l.pass

abbrev pub decreases-items : goal.decreases-items
decreases-items l = length l.fn.into.items + 2 ^ 31 - length l.into.items
