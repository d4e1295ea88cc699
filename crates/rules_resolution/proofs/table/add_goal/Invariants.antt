use Rattle.std.proofs.Common.{◌≡◌, ◌++◌, take}
use Rattle.rules_resolution.specs.Table.{goal_occurrences}
use Rattle.rules_resolution.proofs.table.add_goal.Given as goal

abbrev pub invariant-loop-literal : goal.invariant-loop-literal
invariant-loop-literal l = l.found.items ≡ l.initial.found.items ++ goal_occurrences l.premise (take l.literal-index l.goal)
