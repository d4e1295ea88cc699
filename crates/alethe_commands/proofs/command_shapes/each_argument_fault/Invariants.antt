use Rattle.std.proofs.Common.{◌≡◌, ◌-◌}
use Rattle.text_items.specs.ItemsAt.{items_at}
use Rattle.alethe_text.specs.Commands.{each_argument_fault}
use Rattle.alethe_commands.proofs.command_shapes.each_argument_fault.Given as goal

-- no argument before node k has a fault
abbrev pub invariant-items : goal.invariant-items
invariant-items l = each_argument_fault (items_at l.items l.first l.end) ≡ each_argument_fault (items_at l.items l.k l.end)

abbrev pub decreases-items : goal.decreases-items
decreases-items l = l.end - l.k
