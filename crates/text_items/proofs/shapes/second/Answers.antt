use Rattle.std.proofs.Common.{◌∙◌, ap}
use Rattle.sexpr.specs.Items.{Items, item}
use Rattle.text_items.specs.ItemsAt.{item_at}
use Rattle.text_items.specs.Stepping.{has_two}
use Rattle.text_items.proofs.ItemsAtLemmas.{items_are, first_and_others, no_items_are}
use Rattle.text_items.proofs.shapes.second.Goals as goal

pub returns-then-first-end : goal.returns-then-first-end
returns-then-first-end c = ap has_two (no_items_are c.args.items.now c.args.first c.args.end c.if-first-end.true)

pub returns-then-next-end : goal.returns-then-next-end
returns-then-next-end c = record {
  later = c.node-next.ensures.behind;
  less = c.if-next-end.true;
  here = c.node-next.ensures.next;
  split = first_and_others c.args.items.now c.args.first c.args.end c.node-next.result c.node-next.ensures c.if-first-end.false c.requires
      ∙ ap (item (item_at c.args.items.now c.args.first)) (items_are c.args.items.now c.node-next.result.next c.args.end c.if-next-end.true c.requires);
}

pub returns-else-next-end : goal.returns-else-next-end
returns-else-next-end c =
    ap has_two (first_and_others c.args.items.now c.args.first c.args.end c.node-next.result c.node-next.ensures c.if-first-end.false c.requires)
    ∙ ap (λ (others : Items). has_two (item (item_at c.args.items.now c.args.first) others)) (no_items_are c.args.items.now c.node-next.result.next c.args.end c.if-next-end.false)
