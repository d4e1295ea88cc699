-- Behind `:=` stand a variable and its term.
use Rattle.std.proofs.Common.{sym, ◌∙◌}
use Rattle.alethe_commands.proofs.ShapesByNodes.{assigned_in}
use Rattle.alethe_commands.proofs.command_shapes.argument_fault.Goals as goal

pub returns-then-is_spelled : goal.returns-then-is_spelled
returns-then-is_spelled c =
    c.assigned_fault.ensures
    ∙ assigned_in c.args.items.now c.args.k c.node-argument.result c.node-argument.ensures c.in-Some.next c.in-Some.ensures
    (sym c.is_spelled.ensures ∙ c.if-is_spelled.true)
