use Rattle.std.proofs.Common.{sym, ◌∙◌, ap, Some}
use Rattle.text_items.specs.ItemShapes.{excess}
use Rattle.text_items.proofs.ItemsAtLemmas.{items_are, no_items_are}
use Rattle.text_items.proofs.shapes.excess.Goals as goal

pub returns-then-first-end : goal.returns-then-first-end
returns-then-first-end c = ap Some c.node.ensures.start ∙ sym (ap excess (items_are c.args.items.now c.args.first c.args.end c.if-first-end.true c.requires))

pub returns-else-first-end : goal.returns-else-first-end
returns-else-first-end c = sym (ap excess (no_items_are c.args.items.now c.args.first c.args.end c.if-first-end.false))
