use Rattle.std.proofs.Common.{◌≡◌, map, take}
use Rattle.elab_resolution.specs.Loaded.{pivot_for}
use Rattle.elab_resolution.proofs.adding.pivots.Given as goal

abbrev pub invariant-pivots : goal.invariant-pivots
invariant-pivots l = l.list.items ≡ map (pivot_for l.refs l.fn.truth) (take l.pivot-index l.planned)
