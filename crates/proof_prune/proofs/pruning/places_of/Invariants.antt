use Rattle.std.proofs.Common.{◌≡◌, map, take, slice_index}
use Rattle.proof_prune.proofs.pruning.places_of.Given as goal

abbrev pub invariant-commands : goal.invariant-commands
invariant-commands l = l.list.items ≡ map (slice_index l.places) (take l.command-index l.commands)
