use Rattle.std.proofs.Common.{ℕ, take}
use Rattle.pair_pool.specs.Views.{IsPassOf}
use Rattle.term_pool.specs.Listings.{trees_of}
use Rattle.term_pool.specs.Putting.{Piece, ArePiecesOfLeaves}
use Rattle.term_pool.specs.Views.{KeepsPass}
use Rattle.term_pool.proofs.PuttingLemmas.{IsPutting}
use Rattle.term_pool.proofs.putting.put.Given as goal

abbrev pub invariant-cells : goal.invariant-cells
invariant-cells l = record {
  keeps : KeepsPass l.fn.pass.view l.pass.view;
  of_pool : IsPassOf l.pool l.pass;
  right : (f : ℕ → Piece) → ArePiecesOfLeaves l.fn.pass.view l.images f →
      IsPutting l.fn.pass.view l.pass.view f l.made.items (trees_of (take l.c-index l.c-items)) l.fn.r;
}
