-- `:args` alone, another item alone, or more of them.
use Rattle.std.proofs.Common.{sym, ap, ◌∙◌, Some, None}
use Rattle.std.specs.Prelude.{if◌then◌else◌}
use Rattle.text_items.proofs.ItemsAtLemmas.{no_items_are}
use Rattle.alethe_text.specs.Commands.{list_lacking}
use Rattle.alethe_commands.proofs.ShapesByNodes.{alone_lacks, more_behind}
use Rattle.alethe_commands.proofs.command_shapes.list_lacking.Goals as goal

pub returns-then-first-end : goal.returns-then-first-end
returns-then-first-end c = ap (list_lacking c.args.place) (sym (no_items_are c.args.items.now c.args.first c.args.end c.if-first-end.true))

pub returns-then-node-end : goal.returns-then-node-end
returns-then-node-end c =
    more_behind c.args.items.now c.args.place c.args.first c.args.end c.node.result c.node.ensures c.if-first-end.false c.requires c.if-node-end.true

pub returns-then-is_spelled : goal.returns-then-is_spelled
returns-then-is_spelled c =
    ap (λ b. if b then Some c.args.place else None) (sym c.if-is_spelled.true)
    ∙ alone_lacks c.args.items.now c.args.place c.args.first c.args.end c.node.result c.node.ensures c.if-first-end.false c.requires
    c.if-node-end.false c.is_spelled.result c.is_spelled.ensures

pub returns-else-is_spelled : goal.returns-else-is_spelled
returns-else-is_spelled c =
    ap (λ b. if b then Some c.args.place else None) (sym c.if-is_spelled.false)
    ∙ alone_lacks c.args.items.now c.args.place c.args.first c.args.end c.node.result c.node.ensures c.if-first-end.false c.requires
    c.if-node-end.false c.is_spelled.result c.is_spelled.ensures
