use Rattle.std.proofs.Common.{ℕ, ◌≤◌, ◌<◌, ◌-◌}
use Rattle.rule_model.specs.Reading.{scope_at}
use Rattle.rules_subproof.proofs.assumes.begin_of.Given as goal

abbrev pub invariant-halves : goal.invariant-halves
invariant-halves l =
    (l.high ≤ l.end) × ((j : ℕ) → l.high ≤ j → j < l.end → l.scope ≤ scope_at l.proof j)

abbrev pub decreases-halves : goal.decreases-halves
decreases-halves l = l.high - l.low
