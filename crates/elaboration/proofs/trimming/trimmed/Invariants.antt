use Rattle.std.proofs.Common.{◌≡◌}
use Rattle.elaboration.proofs.trimming.trimmed.Given as goal

abbrev pub invariant-steps : goal.invariant-steps
invariant-steps l = l.block.items ≡ l.initial.block.items
