use Rattle.std.proofs.Common.{◌≡◌, take}
use Rattle.chain_plan.proofs.ending.are_same.Given as goal

abbrev pub invariant-place : goal.invariant-place
invariant-place l = take l.place l.clause ≡ take l.place l.other
