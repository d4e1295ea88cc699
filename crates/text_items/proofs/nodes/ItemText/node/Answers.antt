use Rattle.std.proofs.Common.{subst}
use Rattle.text_items.specs.ItemsAt.{ItemsView}
use Rattle.text_items.specs.Stepping.{IsItemNode}
use Rattle.text_items.proofs.NodeLemmas.{node_read}
use Rattle.text_items.proofs.nodes.ItemText.node.Goals as goal

pub returns : goal.returns
returns c = subst (λ (items : ItemsView). IsItemNode items c.args.k c.node_at.result) c.self.view_is (node_read _ c.self.inside.nodes.now c.args.k c.node_at.result c.self.invariant c.node_at.ensures)
