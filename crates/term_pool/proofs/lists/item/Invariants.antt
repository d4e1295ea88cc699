use Rattle.pair_pool.specs.Views.{IsPassOf}
use Rattle.std.proofs.Common.{◌≡◌}
use Rattle.term_pool.proofs.PassLemmas.{IsAfter}
use Rattle.term_pool.proofs.lists.item.Given as goal

abbrev pub invariant-items : goal.invariant-items
invariant-items l = (l.pass.view ≡ l.fn.pass.view) × IsAfter l.fn.pass.view l.fn.list l.rest l.counter l.fn.i × IsPassOf l.pool l.pass
