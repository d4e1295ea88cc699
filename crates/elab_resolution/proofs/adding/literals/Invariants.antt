use Rattle.std.proofs.Common.{◌≡◌, map, take}
use Rattle.elab_resolution.specs.Loaded.{reference_or}
use Rattle.elab_resolution.proofs.adding.literals.Given as goal

abbrev pub invariant-items : goal.invariant-items
invariant-items l = l.list.items ≡ map (λ x. reference_or l.refs l.fn.truth x.term) (take l.item-index l.clause)
