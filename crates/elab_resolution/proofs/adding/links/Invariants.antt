use Rattle.std.proofs.Common.{◌≡◌, map, take}
use Rattle.elab_resolution.specs.Loaded.{link_for}
use Rattle.elab_resolution.proofs.adding.links.Given as goal

abbrev pub invariant-sources : goal.invariant-sources
invariant-sources l = l.list.items ≡ map (link_for l.premises) (take l.source-index l.sources)
