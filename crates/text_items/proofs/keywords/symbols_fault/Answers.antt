use Rattle.std.proofs.Common.{sym, ◌∙◌, ap}
use Rattle.text_items.specs.Keywords.{symbols_fault}
use Rattle.text_items.proofs.ItemsAtLemmas.{items_are, told_on, told_at_end}
use Rattle.text_items.proofs.ShapeLemmas.{fault_stops, fault_passes}
use Rattle.text_items.proofs.keywords.symbols_fault.Goals as goal

pub returns-then-is_some : goal.returns-then-is_some
returns-then-is_some c =
    fault_stops _ _ c.symbol_fault-fault.result _ (c.items.invariant ∙ ap symbols_fault (items_are c.args.items.now c.items.k c.args.end c.items-test.true c.requires)) c.symbol_fault-fault.ensures (sym c.is_some.ensures ∙ c.if-is_some.true)

pub items-preserved : goal.items-preserved
items-preserved c =
    fault_passes _ _ c.symbol_fault-fault.result _ (told_on c.args.items.now c.items.k c.args.end c.node-k.result c.node-k.ensures c.items-test.true c.requires symbols_fault _ c.items.invariant)
    c.symbol_fault-fault.ensures (sym c.is_some.ensures ∙ c.if-is_some.false)

pub returns : goal.returns
returns c = told_at_end c.args.items.now c.items.k c.args.end symbols_fault _ c.items.invariant c.items-test.false
