use Rattle.std.proofs.Common.{◌≡◌, length, take, Contains}
use Rattle.proof_prune.specs.Marking.{MarksMore}
use Rattle.proof_prune.proofs.marking.mark_all.Given as goal

abbrev pub invariant-numbers : goal.invariant-numbers
invariant-numbers l =
    MarksMore l.initial.marks.items l.marks.items (Contains (take l.number-index l.numbers)) × (length l.marks.items ≡ length l.initial.marks.items)
