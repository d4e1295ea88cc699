use Rattle.std.proofs.Common.{◌≡◌, ◌+◌, ◌-◌, ℕ, length, slice_get, Some}
use Rattle.proof_prune.proofs.closers.note.Given as goal

abbrev pub invariant-room : goal.invariant-room
invariant-room l = (j x : ℕ) → slice_get l.initial.list.items j ≡ Some x → slice_get l.list.items j ≡ Some x

abbrev pub decreases-room : goal.decreases-room
decreases-room l = (l.k + 1) - length l.list.items
