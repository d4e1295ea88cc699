use Rattle.std.proofs.Common.{◌≡◌, List, take, true}
use Rattle.term_model.specs.Terms.{Term}
use Rattle.rules_congruence.specs.Sides.{AreDenied}
use Rattle.term_pool.specs.Views.{ReferToAll}
use Rattle.rules_congruence.proofs.sides.denied.Given as goal

abbrev pub invariant-loop-literal : goal.invariant-loop-literal
invariant-loop-literal l =
    (l.terms ≡ l.initial.terms)
    × (l.given.only ≡ true)
    × ((ts : List Term) → ReferToAll l.symbols l.initial.terms (take l.literal-index l.literals) ts →
    AreDenied l.symbols l.initial.terms l.given.pairs.items ts)
