-- Items from k to before a later node are one or more.
use Rattle.std.proofs.Common.{refl}
use Rattle.text_items.proofs.ItemsAtLemmas.{first_and_others, no_items_are}
use Rattle.text_items.proofs.children.take.Goals as goal

pub returns-then-here-end : goal.returns-then-here-end
returns-then-here-end c = (
  refl,
  record {
    less = c.if-here-end.true;
    here = c.node.ensures.next;
    later = c.node.ensures.behind;
    inside = c.node.ensures.inside;
    split = first_and_others c.args.items.now c.args.at.now c.args.end c.node.result c.node.ensures c.if-here-end.true c.requires;
  },
)

pub returns-else-here-end : goal.returns-else-here-end
returns-else-here-end c = (no_items_are c.args.items.now c.args.at.now c.args.end c.if-here-end.false, c.bad_command.ensures)
