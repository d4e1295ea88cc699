use Rattle.std.proofs.Common.{◌≡◌, ◌++◌, drop, map}
use Rattle.judged_texts.specs.Holes.{holes_from, told_hole}
use Rattle.judged_texts.proofs.naming.holes_of.Given as goal

abbrev pub invariant-commands : goal.invariant-commands
invariant-commands l = map told_hole l.holes.items ++ holes_from l.proof l.index (drop l.index l.statuses) ≡ holes_from l.proof 0 l.statuses
