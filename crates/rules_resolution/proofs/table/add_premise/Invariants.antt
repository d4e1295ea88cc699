use Rattle.std.proofs.Common.{◌≡◌, ◌++◌, take}
use Rattle.rules_resolution.specs.Table.{occurrences_of}
use Rattle.rules_resolution.proofs.table.add_premise.Given as goal

abbrev pub invariant-loop-place : goal.invariant-loop-place
invariant-loop-place l = l.found.items ≡ l.initial.found.items ++ occurrences_of l.premise 0 (take l.place l.clause)
