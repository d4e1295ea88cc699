use Rattle.std.proofs.Common.{◌≡◌, take, drop}
use Rattle.term_names.specs.Applying.{bounds_of}
use Rattle.term_names.proofs.applying.arguments_for.Given as goal

abbrev pub invariant-parameters : goal.invariant-parameters
invariant-parameters l = l.bounds.items ≡ bounds_of (take l.i l.parameters) (drop l.from l.values)
