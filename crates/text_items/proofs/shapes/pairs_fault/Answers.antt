use Rattle.std.proofs.Common.{sym, ◌∙◌, ap}
use Rattle.text_items.specs.ItemShapes.{pairs_fault}
use Rattle.text_items.proofs.ItemsAtLemmas.{items_are, told_on, told_at_end}
use Rattle.text_items.proofs.ShapeLemmas.{fault_stops, fault_passes}
use Rattle.text_items.proofs.shapes.pairs_fault.Goals as goal

pub returns-then-is_some : goal.returns-then-is_some
returns-then-is_some c =
    fault_stops _ _ c.pair_fault-fault.result _ (c.pairs.invariant ∙ ap pairs_fault (items_are c.args.items.now c.pairs.k c.args.end c.pairs-test.true c.requires)) c.pair_fault-fault.ensures (sym c.is_some.ensures ∙ c.if-is_some.true)

pub pairs-preserved : goal.pairs-preserved
pairs-preserved c =
    fault_passes _ _ c.pair_fault-fault.result _ (told_on c.args.items.now c.pairs.k c.args.end c.node-k.result c.node-k.ensures c.pairs-test.true c.requires pairs_fault _ c.pairs.invariant)
    c.pair_fault-fault.ensures (sym c.is_some.ensures ∙ c.if-is_some.false)

pub returns : goal.returns
returns c = told_at_end c.args.items.now c.pairs.k c.args.end pairs_fault _ c.pairs.invariant c.pairs-test.false
