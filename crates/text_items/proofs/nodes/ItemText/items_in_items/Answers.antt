use Rattle.std.proofs.Common.{subst}
use Rattle.text_items.specs.ItemsAt.{ItemsView}
use Rattle.text_items.specs.Stepping.{AreInside}
use Rattle.text_items.proofs.NodeLemmas.{are_inside}
use Rattle.text_items.proofs.nodes.ItemText.items_in_items.Goals as goal

pub returns : goal.returns
returns c = subst (λ (items : ItemsView). AreInside items) c.self.view_is (are_inside _ c.self.inside.nodes.now c.self.invariant)
