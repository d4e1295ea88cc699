use Rattle.std.proofs.Common.{◌≡◌, take}
use Rattle.clause_chain.specs.Places.{left_from, place_in}
use Rattle.clause_chain.proofs.chain.Chain.write.Given as goal

abbrev pub invariant-added : goal.invariant-added
invariant-added l = l.list.items ≡ left_from (place_in l.self-inside.places) 0 (take l.place l.self-inside.added.items)
