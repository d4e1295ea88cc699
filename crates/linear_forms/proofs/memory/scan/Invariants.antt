use Rattle.std.proofs.Common.{◌≡◌, ◌≤◌, length}
use Rattle.linear_forms.specs.Memos.{number_among}
use Rattle.linear_forms.proofs.memory.scan.Given as goal

abbrev pub invariant-numbered : goal.invariant-numbered
invariant-numbered l =
    (l.k ≤ length l.fn.few) × (number_among l.fn.few (length l.fn.few) l.fn.item ≡ number_among l.fn.few l.k l.fn.item)

abbrev pub decreases-numbered : goal.decreases-numbered
decreases-numbered l = l.k
