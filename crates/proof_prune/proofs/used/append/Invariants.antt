use Rattle.std.proofs.Common.{◌≡◌, ◌++◌, take}
use Rattle.proof_prune.proofs.used.append.Given as goal

abbrev pub invariant-each : goal.invariant-each
invariant-each l = l.list.items ≡ l.initial.list.items ++ take l.r-index l.references
