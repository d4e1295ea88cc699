use Rattle.std.proofs.Common.{◌≤◌, ◌-◌, length}
use Rattle.proof_prune.specs.Marking.{MarksMore}
use Rattle.proof_prune.proofs.marking.grow.Given as goal

abbrev pub invariant-room : goal.invariant-room
invariant-room l = MarksMore l.initial.marks.items l.marks.items (λ j. ⊥) × (length l.initial.marks.items ≤ l.count → length l.marks.items ≤ l.count)

abbrev pub decreases-room : goal.decreases-room
decreases-room l = l.count - length l.marks.items
