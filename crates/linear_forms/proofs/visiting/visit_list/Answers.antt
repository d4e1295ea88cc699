use Rattle.linear_forms.specs.declared.memory.Item.TheVariants as Item
use Rattle.linear_forms.proofs.Visited.{graph_joinable}
use Rattle.linear_forms.proofs.visiting.visit_list.Goals as goal

pub pair_entry-requires : goal.pair_entry-requires
pair_entry-requires c =
    let h = rw c.in-More.is at c.in_ok-part.ensures.listed in
    graph_joinable c.args.symbols.now c.args.terms.now c.look_list.new.graph c.in_ok-part.ensures.graph.graph
    (Item.Term h.first) (Item.List h.rest) c.in-More.first c.in-More.rest h.one h.others
