use Rattle.std.proofs.Common.{◌≡◌, ◌++◌, take}
use Rattle.rules_resolution.specs.Naming.{keys_from}
use Rattle.rules_resolution.proofs.naming.add_keys.Given as goal

abbrev pub invariant-loop-place : goal.invariant-loop-place
invariant-loop-place l = l.keys.items ≡ l.initial.keys.items ++ keys_from l.from (take l.place l.clause)
