use Rattle.std.proofs.Common.{ℕ, ◌<◌}
use Rattle.rule_model.specs.Consequence.{literal_at}
use Rattle.rules_resolution.proofs.Progresses.{IsAlone}
use Rattle.rules_resolution.proofs.few.contradicts_itself.Given as goal

-- none so far is false with its opposite
abbrev pub invariant-loop-literal : goal.invariant-loop-literal
invariant-loop-literal l = (k : ℕ) → k < l.literal-index → IsAlone l.goal (literal_at l.goal k)
