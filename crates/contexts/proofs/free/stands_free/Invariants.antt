use Rattle.std.proofs.Common.{◌≡◌, ◌+◌, ◌*◌, ◌^◌, vec_len}
use Rattle.contexts.specs.Searching.{openings_left}
use Rattle.contexts.proofs.SearchSteps.{IsSearch}
use Rattle.contexts.proofs.free.stands_free.Given as goal

abbrev pub invariant-cells : goal.invariant-cells
invariant-cells l = (l.terms ≡ l.fn.terms) × IsSearch l.fn.terms.pass l.leaf l.fn.r l.met.cells.keys l.left.items

abbrev pub decreases-cells : goal.decreases-cells
decreases-cells l = openings_left l.met * 2 ^ 64 + vec_len l.left
