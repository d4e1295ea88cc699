use Rattle.std.proofs.Common.{◌≡◌, ℕ, ◌<◌, []}
use Rattle.rule_model.specs.Reading.{clause_at, scope_at}
use Rattle.verdict_merge.proofs.reaching.reaches_empty.Given as goal

abbrev pub invariant-commands : goal.invariant-commands
invariant-commands l = (j : ℕ) → j < l.i → ¬ ((scope_at l.proof j ≡ 0) × (clause_at l.proof j ≡ []))
