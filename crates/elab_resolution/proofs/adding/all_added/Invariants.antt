use Rattle.std.proofs.Common.{◌≡◌, map, take}
use Rattle.elab_resolution.specs.Loaded.{added_for}
use Rattle.elab_resolution.proofs.adding.all_added.Given as goal

abbrev pub invariant-steps : goal.invariant-steps
invariant-steps l = l.list.items ≡ map (added_for l.refs l.fn.truth l.premises) (take l.step-index l.steps)
