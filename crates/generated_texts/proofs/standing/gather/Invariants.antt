use Rattle.std.proofs.Common.{◌≡◌, ◌++◌}
use Rattle.generated_texts.specs.Standing.{standing_to}
use Rattle.generated_texts.proofs.standing.gather.Given as goal

abbrev pub invariant-commands : goal.invariant-commands
invariant-commands l = l.list.items ≡ l.assertions ++ standing_to l.proof l.i
