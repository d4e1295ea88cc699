use Rattle.term_pool.specs.Numbering.{IsFilled}
use Rattle.term_pool.proofs.numbering.by_place.Given as goal

abbrev pub invariant-cells : goal.invariant-cells
invariant-cells l = IsFilled l.places l.cells l.k l.numbers.items
