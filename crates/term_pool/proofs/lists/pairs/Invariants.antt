use Rattle.pair_pool.specs.Views.{IsPassOf}
use Rattle.std.proofs.Common.{◌≡◌, ◌+◌, ◌-◌, ◌^◌, length}
use Rattle.term_pool.proofs.ListLemmas.{ArePairsCollected}
use Rattle.term_pool.proofs.lists.pairs.Given as goal

abbrev pub invariant-pairs : goal.invariant-pairs
invariant-pairs l =
    (l.pass.view ≡ l.fn.pass.view) × ArePairsCollected l.fn.pass.view l.fn.list l.rest l.fn.leaves.items l.leaves.items l.fn.into.items l.into.items ×
    IsPassOf l.pool l.pass

abbrev pub decreases-pairs : goal.decreases-pairs
decreases-pairs l = length l.fn.into.items + 2 ^ 31 - length l.into.items
