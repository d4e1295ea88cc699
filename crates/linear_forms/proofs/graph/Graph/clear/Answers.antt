use Rattle.linear_forms.proofs.Graphing.{empty_graph}
use Rattle.linear_forms.proofs.graph.Graph.clear.Goals as goal

pub returns : goal.returns
returns c = λ s v. empty_graph s v _ c.clear.ensures.items c.clear-2.ensures.items c.forget.ensures
