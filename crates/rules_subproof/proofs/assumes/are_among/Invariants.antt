use Rattle.std.proofs.Common.{ℕ, ◌≤◌, Contains}
use Rattle.rule_model.specs.Subproof.{IsAssumeIn}
use Rattle.rules_subproof.proofs.assumes.are_among.Given as goal

abbrev pub invariant-commands : goal.invariant-commands
invariant-commands l =
    (l.next ≤ l.i) × ((j : ℕ) → l.next ≤ j → IsAssumeIn l.proof l.i l.scope j → Contains l.list j)

abbrev pub decreases-commands : goal.decreases-commands
decreases-commands l = l.next
