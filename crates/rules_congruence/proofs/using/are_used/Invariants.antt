use Rattle.std.proofs.Common.{◌≤◌, ◌↔◌, length, drop}
use Rattle.rules_congruence.specs.Pairs.{AreUsed}
use Rattle.rules_congruence.proofs.using.are_used.Given as goal

abbrev pub invariant-loop-place : goal.invariant-loop-place
invariant-loop-place l =
    (l.used ≤ length l.pairs)
    × (AreUsed l.all l.pairs l.lefts l.rights ↔ AreUsed l.all (drop l.used l.pairs) (drop l.place l.lefts) (drop l.place l.rights))
