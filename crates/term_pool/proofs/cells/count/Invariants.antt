use Rattle.pair_pool.specs.Views.{IsPassOf}
use Rattle.std.proofs.Common.{◌≡◌, take}
use Rattle.term_pool.proofs.ListingLemmas.{IsCounting}
use Rattle.term_pool.proofs.cells.count.Given as goal

abbrev pub invariant-references : goal.invariant-references
invariant-references l = (l.pass.view ≡ l.fn.pass.view) × IsCounting l.fn.pass.view l.list (take l.r-index l.list) l.listing × IsPassOf l.pool l.pass
