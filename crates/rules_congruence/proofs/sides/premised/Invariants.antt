use Rattle.std.proofs.Common.{◌≡◌, List, take}
use Rattle.term_model.specs.Terms.{Term}
use Rattle.rules_congruence.specs.Sides.{IsGiven}
use Rattle.term_parts.specs.Judging.{ReferToClauses}
use Rattle.rules_congruence.proofs.sides.premised.Given as goal

abbrev pub invariant-loop-premise : goal.invariant-loop-premise
invariant-loop-premise l =
    (l.terms ≡ l.initial.terms)
    × ((ps : List (List Term)) → ReferToClauses l.symbols l.initial.terms (take l.premise-index l.premises) ps →
    IsGiven l.symbols l.initial.terms l.given.pairs.items l.given.only ps)
