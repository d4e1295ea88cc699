use Rattle.std.proofs.Common.{◌≡◌, ℕ, ◌<◌, ◌-◌, []}
use Rattle.rule_model.specs.Reading.{clause_at, scope_at}
use Rattle.rule_model.specs.Scopes.{commands_in}
use Rattle.pruned_texts.proofs.refutations.first_empty.Given as goal

-- none was met so far
abbrev pub invariant-commands : goal.invariant-commands
invariant-commands l = (j : ℕ) → j < l.i → ¬ ((scope_at l.proof j ≡ 0) × (clause_at l.proof j ≡ []))

abbrev pub decreases-commands : goal.decreases-commands
decreases-commands l = commands_in l.proof - l.i
