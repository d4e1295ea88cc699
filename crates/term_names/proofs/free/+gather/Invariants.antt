use Rattle.std.proofs.Common.{◌+◌, ◌*◌}
use Rattle.term_names.proofs.Gathering.{IsPassed}
use Rattle.term_names.proofs.free.+gather.Given as goal

abbrev pub decreases-gather : goal.decreases-gather
decreases-gather l = 4 * l.most + 1

abbrev pub decreases-gather_all : goal.decreases-gather_all
decreases-gather_all l = 4 * l.most + 2

abbrev pub decreases-gather_let : goal.decreases-gather_let
decreases-gather_let l = 4 * l.most

abbrev pub decreases-leaves_of : goal.decreases-leaves_of
decreases-leaves_of l = 4 * l.most + 2

abbrev pub invariant-gather_all-terms : goal.invariant-gather_all-terms
invariant-gather_all-terms l =
    IsPassed l.tables.symbols.now l.fn.terms l.terms l.fn.list l.at l.fn.region.found.keys l.region.seen.keys l.region.found.keys l.bodies

abbrev pub decreases-gather_all-terms : goal.decreases-gather_all-terms
decreases-gather_all-terms l = l.at
