use Rattle.std.proofs.Common.{◌≡◌, ◌++◌, map, take}
use Rattle.generated_texts.proofs.standing.add_values.Given as goal

abbrev pub invariant-bindings : goal.invariant-bindings
invariant-bindings l = l.list.items ≡ l.initial.list.items ++ map (λ b. b.1) (take l.binding-index l.bindings)
