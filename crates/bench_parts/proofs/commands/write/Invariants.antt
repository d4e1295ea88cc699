use Rattle.std.proofs.Common.{◌≤◌, ◌-◌}
use Rattle.bench_parts.specs.Numbered.{IsNumberedScope}
use Rattle.bench_parts.proofs.commands.write.Given as goal

abbrev pub invariant-commands : goal.invariant-commands
invariant-commands l = IsNumberedScope l.builder l.number × (l.number ≤ l.count)

abbrev pub decreases-commands : goal.decreases-commands
decreases-commands l = l.count - l.number
