use Rattle.std.proofs.Common.{◌≡◌, ◌<◌, ℕ, List, get_or}
use Rattle.rule_model.specs.Congruence.{IsLinked}
use Rattle.term_model.specs.Terms.{Term}
use Rattle.term_pool.specs.Views.{RefersTo}
use Rattle.rules_congruence.specs.Links.{TellsSides}
use Rattle.rules_congruence.proofs.congruence.are_linked.Given as goal

abbrev pub invariant-loop-place : goal.invariant-loop-place
invariant-loop-place l =
    (l.terms ≡ l.initial.terms)
    × ((ps : List (List Term)) (k : ℕ) (t u : Term) → TellsSides l.symbols l.initial.terms l.links ps → k < l.place →
    RefersTo l.symbols l.initial.terms (get_or l.lefts k 0) t → RefersTo l.symbols l.initial.terms (get_or l.rights k 0) u → IsLinked ps t u)
