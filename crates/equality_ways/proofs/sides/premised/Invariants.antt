use Rattle.std.proofs.Common.{◌≡◌, List, take}
use Rattle.term_model.specs.Terms.{Term}
use Rattle.term_parts.specs.Judging.{ReferToClauses}
use Rattle.equality_ways.specs.Sides.{AreSidesOfUnits}
use Rattle.equality_ways.proofs.sides.premised.Given as goal

abbrev pub invariant-loop-premise : goal.invariant-loop-premise
invariant-loop-premise l =
    (l.terms ≡ l.initial.terms)
    × ((ps : List (List Term)) → ReferToClauses l.symbols l.initial.terms (take l.premise-index l.premises) ps → AreSidesOfUnits l.symbols l.initial.terms l.sides.items ps)
