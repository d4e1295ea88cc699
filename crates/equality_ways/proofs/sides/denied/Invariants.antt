use Rattle.std.proofs.Common.{◌≡◌, List, take}
use Rattle.term_model.specs.Terms.{Term}
use Rattle.term_pool.specs.Views.{ReferToAll}
use Rattle.equality_ways.specs.Sides.{AreSidesOfDenials}
use Rattle.equality_ways.proofs.sides.denied.Given as goal

abbrev pub invariant-loop-literal : goal.invariant-loop-literal
invariant-loop-literal l =
    (l.terms ≡ l.initial.terms)
    × ((ts : List Term) → ReferToAll l.symbols l.initial.terms (take l.literal-index l.literals) ts → AreSidesOfDenials l.symbols l.initial.terms l.sides.items ts)
