use Rattle.std.proofs.Common.{sym, ◌∙◌, ap, map}
use Rattle.text_items.specs.ItemsAt.{items_at}
use Rattle.text_items.specs.Keywords.{known_of, at_end}
use Rattle.text_items.specs.declared.keywords.Next.{Next}
use Rattle.text_items.proofs.ItemsAtLemmas.{told_on, told_at_end}
use Rattle.text_items.proofs.keywords.at_end.Goals as goal

pub items-preserved : goal.items-preserved
items-preserved c =
    told_on c.args.items.now c.items.k c.args.end c.node-k.result c.node-k.ensures c.items-test.true c.requires (at_end (map known_of c.args.known.now) c.items.next) _ c.items.invariant
    ∙ ap (λ (next : Next). at_end (map known_of c.args.known.now) next (items_at c.args.items.now c.node-k.result.next c.args.end)) (sym c.after_item-next.ensures)

pub returns : goal.returns
returns c = told_at_end c.args.items.now c.items.k c.args.end (at_end (map known_of c.args.known.now) c.items.next) _ c.items.invariant c.items-test.false
