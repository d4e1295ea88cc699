-- What is used so far.
use Rattle.std.proofs.Common.{◌≡◌, take}
use Rattle.lia_rows.specs.Steps.{used}
use Rattle.lia_rows.proofs.refuting.used_of.Given as goal

abbrev pub invariant-multipliers : goal.invariant-multipliers
invariant-multipliers l = record {
  assertions : l.refutation.assertions.items ≡ used (take l.k l.multipliers) (take l.k l.assertions);
  numbers : l.refutation.multipliers.items ≡ used (take l.k l.multipliers) (take l.k l.multipliers);
}
