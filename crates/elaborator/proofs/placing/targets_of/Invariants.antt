use Rattle.std.proofs.Common.{◌≡◌, map, take}
use Rattle.elaborator.specs.Links.{target}
use Rattle.elaborator.proofs.placing.targets_of.Given as goal

abbrev pub invariant-links : goal.invariant-links
invariant-links l = l.list.items ≡ map (target l.places l.start) (take l.link-index l.links)
