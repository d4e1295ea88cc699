use Rattle.std.proofs.Common.{◌⊎◌, ℕ, ◌<◌, ◌≤◌, length, All, Contains}
use Rattle.rules_resolution.specs.Standing.{open_at}
use Rattle.rules_resolution.proofs.standing.ready_of.Given as goal

abbrev pub invariant-loop-premise : goal.invariant-loop-premise
invariant-loop-premise l =
    ((p : ℕ) → p < l.premise → (2 ≤ open_at l.standings p) ⊎ Contains l.ready.items p)
    × All (λ p. p < length l.standings) l.ready.items
