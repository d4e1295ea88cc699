use Rattle.std.proofs.Common.{sym, ◌∙◌, ap, map}
use Rattle.text_items.specs.ItemsAt.{items_at}
use Rattle.text_items.specs.Keywords.{known_of, misplaced}
use Rattle.text_items.specs.declared.keywords.Next.{Next}
use Rattle.text_items.proofs.ItemsAtLemmas.{items_are, told_on, told_at_end}
use Rattle.text_items.proofs.ShapeLemmas.{fault_stops, fault_passes}
use Rattle.text_items.proofs.keywords.misplaced.Goals as goal

pub returns-then-is_some : goal.returns-then-is_some
returns-then-is_some c =
    fault_stops _ _ c.next_fault-fault.result _ (c.items.invariant ∙ ap (misplaced (map known_of c.args.known.now) c.items.next) (items_are c.args.items.now c.items.k c.args.end c.items-test.true c.requires))
    c.next_fault-fault.ensures (sym c.is_some.ensures ∙ c.if-is_some.true)

pub items-preserved : goal.items-preserved
items-preserved c =
    fault_passes _ _ c.next_fault-fault.result _
    (told_on c.args.items.now c.items.k c.args.end c.node-k.result c.node-k.ensures c.items-test.true c.requires (misplaced (map known_of c.args.known.now) c.items.next) _ c.items.invariant)
    c.next_fault-fault.ensures (sym c.is_some.ensures ∙ c.if-is_some.false)
    ∙ ap (λ (next : Next). misplaced (map known_of c.args.known.now) next (items_at c.args.items.now c.node-k.result.next c.args.end)) (sym c.after_item-next.ensures)

pub returns : goal.returns
returns c = told_at_end c.args.items.now c.items.k c.args.end (misplaced (map known_of c.args.known.now) c.items.next) _ c.items.invariant c.items-test.false
