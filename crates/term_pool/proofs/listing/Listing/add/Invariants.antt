use Rattle.pair_pool.specs.Views.{IsPassOf}
use Rattle.std.proofs.Common.{◌≡◌, ◌+◌}
use Rattle.std.specs.List.{sum_by}
use Rattle.term_pool.specs.Listings.{trees_of}
use Rattle.term_pool.proofs.ListingWalk.{IsWalk, weight_above, weight_at}
use Rattle.term_pool.proofs.listing.Listing.add.Given as goal

abbrev pub invariant-cells : goal.invariant-cells
invariant-cells l =
    (l.pass.view ≡ l.fn.pass.view) × IsWalk l.fn.pass.view (trees_of l.fn.self.cells.items) l.self l.fn.r l.way.items l.at × IsPassOf l.pool l.pass

abbrev pub decreases-cells : goal.decreases-cells
decreases-cells l = sum_by (weight_above l.fn.pass.view) l.way.items + weight_at l.fn.pass.view l.at
