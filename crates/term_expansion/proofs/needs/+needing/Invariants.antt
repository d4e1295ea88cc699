use Rattle.std.proofs.Common.{◌+◌, ◌*◌, take}
use Rattle.term_expansion.proofs.Needing.{IsPassed, AreThrough}
use Rattle.term_expansion.proofs.needs.+needing.Given as goal

abbrev pub decreases-needs_of_let : goal.decreases-needs_of_let
decreases-needs_of_let l = 5 * l.most

abbrev pub decreases-needs_anew : goal.decreases-needs_anew
decreases-needs_anew l = 5 * l.most + 1

abbrev pub decreases-needs_of : goal.decreases-needs_of
decreases-needs_of l = 5 * l.most + 2

abbrev pub decreases-add_needs_of : goal.decreases-add_needs_of
decreases-add_needs_of l = 5 * l.most + 3

abbrev pub decreases-needs_of_all : goal.decreases-needs_of_all
decreases-needs_of_all l = 5 * l.most + 4

abbrev pub invariant-needs_of_all-terms : goal.invariant-needs_of_all-terms
invariant-needs_of_all-terms l = IsPassed l.symbols l.fn.terms l.terms l.fn.list l.at l.fn.found.keys l.found.keys l.needs.leaves

abbrev pub decreases-needs_of_all-terms : goal.decreases-needs_of_all-terms
decreases-needs_of_all-terms l = l.at

abbrev pub invariant-needs_of_let-leaves : goal.invariant-needs_of_let-leaves
invariant-needs_of_let-leaves l =
    AreThrough l.symbols l.fn.terms l.terms l.parts.variables.items l.parts.values.items (take l.k-index l.k-items) l.fn.found.keys l.found.keys l.needs.leaves
