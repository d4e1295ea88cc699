use Rattle.std.proofs.Common.{◌≡◌, take, map}
use Rattle.term_pool.specs.HeightTables.{heights_of}
use Rattle.term_pool.specs.Listings.{trees_of}
use Rattle.term_pool.proofs.heights.of_reference.Given as goal

abbrev pub invariant-cells : goal.invariant-cells
invariant-cells l = l.heights.items ≡ map heights_of (trees_of (take l.c-index l.c-items))
