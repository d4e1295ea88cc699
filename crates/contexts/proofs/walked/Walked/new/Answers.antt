use Rattle.contexts.proofs.Keeping.{walked_start}
use Rattle.contexts.proofs.walked.Walked.new.Goals as goal

pub returns : goal.returns
returns c = walked_start c.in_ok-layers.layers.lists.items c.new-2.result c.new-2.ensures c.in_ok-layers.ensures.first c.in_ok-layers.ensures.one
