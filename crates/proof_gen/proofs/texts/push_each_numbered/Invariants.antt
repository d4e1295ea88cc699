use Rattle.std.proofs.Common.{◌≡◌, ◌++◌}
use Rattle.proof_gen.specs.Templates.{numbered, each}
use Rattle.proof_gen.proofs.texts.push_each_numbered.Given as goal

abbrev pub invariant-loop-before : goal.invariant-loop-before
invariant-loop-before l = l.text.items ≡ l.initial.text.items ++ each (λ i. numbered i l.template) l.before
