use Rattle.std.proofs.Common.{◌↔◌, drop}
use Rattle.rules_congruence.specs.Pairs.{IsPath}
use Rattle.rules_congruence.proofs.ways.is_path.Given as goal

abbrev pub invariant-loop-sides : goal.invariant-loop-sides
invariant-loop-sides l = IsPath l.fn.pairs l.fn.from l.fn.to ↔ IsPath (drop l.sides-index l.pairs) l.at l.to
