use Rattle.linear_forms.proofs.Graphing.{empty_graph}
use Rattle.linear_forms.proofs.graph.Graph.new.Goals as goal

pub returns : goal.returns
returns c = λ s v. empty_graph s v _ c.new-2.ensures.items c.new-3.ensures.items c.new.ensures
