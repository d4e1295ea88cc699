-- Private. The new index that a link names.
use Rattle.std.specs.Prelude.{◌<◌, ◌+◌, ◌^◌, ℕ, List, slice_index}
use Rattle.proof_store.specs.declared.added.Link.{Link}

-- where so many commands have a new index, and the steps of the block begin at a new index
abbrev pub IsWithin : ℕ → ℕ → Link → Type 0
IsWithin count start (Link.Old command) = command < count
IsWithin count start (Link.New number) = start + number < 2 ^ 32

abbrev pub target : List ℕ → ℕ → Link → ℕ
target places start (Link.Old command) = slice_index places command
target places start (Link.New number) = start + number
