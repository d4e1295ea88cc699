use Rattle.std.proofs.Common.{◌≡◌, ◌++◌}
use Rattle.proof_gen.specs.Templates.{filled, each}
use Rattle.proof_gen.proofs.texts.push_each_filled.Given as goal

abbrev pub invariant-loop-before : goal.invariant-loop-before
invariant-loop-before l = l.text.items ≡ l.initial.text.items ++ each (λ i. filled i l.template) l.before
