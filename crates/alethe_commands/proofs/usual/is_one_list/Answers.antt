-- Two items, of which the second is the last one.
use Rattle.std.proofs.Common.{sym, ◌∙◌, ap}
use Rattle.std.proofs.lemmas.Bool.{not-true}
use Rattle.sexpr.specs.Items.{Items, item}
use Rattle.text_items.specs.ItemsAt.{item_at}
use Rattle.text_items.proofs.ItemsAtLemmas.{no_items_are}
use Rattle.alethe_commands.proofs.UsualAttributes.{two_items}
use Rattle.alethe_commands.proofs.usual.is_one_list.Goals as goal

pub returns-in-Some : goal.returns-in-Some
returns-in-Some c = λ yes. record {
  word = c.in-Some.word;
  keyword = item_at c.args.items.now c.args.k;
  value = item_at c.args.items.now c.node-list.result.next;
  split = two_items c.args.items.now c.args.k c.args.end c.node-list.result c.node.result c.node-list.ensures c.node.ensures c.requires.some c.if-list-end.false c.requires.inside
      ∙ ap (λ (rest : Items). item (item_at c.args.items.now c.args.k) (item (item_at c.args.items.now c.node-list.result.next) rest)) (no_items_are c.args.items.now c.node.result.next c.args.end c.if-node-end.false);
  is = c.in-Some.ensures;
  other = sym c.is_rule.ensures ∙ not-true c.is_rule.result yes;
}
