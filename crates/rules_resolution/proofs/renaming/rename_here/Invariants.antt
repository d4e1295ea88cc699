use Rattle.std.proofs.Common.{◌≡◌, ◌++◌, take, drop}
use Rattle.rules_resolution.specs.Renaming.{renamed_from}
use Rattle.rules_resolution.proofs.renaming.rename_here.Given as goal

abbrev pub invariant-loop-place : goal.invariant-loop-place
invariant-loop-place l = l.clause ≡ renamed_from l.names l.from (take l.place l.initial.clause) ++ drop l.place l.initial.clause
