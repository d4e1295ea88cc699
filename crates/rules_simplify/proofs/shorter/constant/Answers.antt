use Rattle.pair_pool.specs.Trees.{leaf}
use Rattle.rules_simplify.proofs.shorter.constant.Goals as goal

pub returns : goal.returns
returns c v = record { tree = leaf c.operator.result; known = c.leaf.ensures.stands v.pass; stands = c.operator.ensures.leaf }
