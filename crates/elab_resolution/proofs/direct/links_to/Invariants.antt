use Rattle.std.proofs.Common.{◌≡◌, map, take}
use Rattle.elab_resolution.specs.Guessed.{link_to}
use Rattle.elab_resolution.proofs.direct.links_to.Given as goal

abbrev pub invariant-premises : goal.invariant-premises
invariant-premises l = l.links.items ≡ map link_to (take l.premise-index l.premises)
