use Rattle.std.proofs.Common.{◌≡◌, take}
use Rattle.rules_congruence.specs.Links.{links_of, AreSmall}
use Rattle.rules_congruence.proofs.links.both_ways.Given as goal

abbrev pub invariant-loop-sides : goal.invariant-loop-sides
invariant-loop-sides l = (l.links.items ≡ links_of (take l.sides-index l.pairs)) × AreSmall l.links.items
