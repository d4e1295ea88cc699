use Rattle.std.proofs.Common.{◌∙◌}
use Rattle.term_pool.proofs.PassLemmas.{after_cell, after_next, after_item}
use Rattle.term_pool.proofs.lists.item.Goals as goal

pub parts-rest-requires-clause-tree : goal.parts-rest-requires-clause-tree
parts-rest-requires-clause-tree c = rw c.items.invariant.0 (after_cell _ _ _ _ _ c.items.invariant.1 c.items.invariant.1.there)

pub items-preserved : goal.items-preserved
items-preserved c = (
  c.parts-rest.ensures.same ∙ c.items.invariant.0,
  after_next _ _ _ _ _ _ c.items.invariant.1 c.items-test.true (rw c.items.invariant.0 at c.parts-rest.ensures.second),
  c.parts-rest.ensures.of_pool,
)

pub parts-requires-clause-tree : goal.parts-requires-clause-tree
parts-requires-clause-tree c = rw c.items.invariant.0 (after_cell _ _ _ _ _ c.items.invariant.1 c.items.invariant.1.there)

pub returns-clause-item : goal.returns-clause-item
returns-clause-item c =
    after_item _ _ _ _ _ _ c.one_to_one.ensures c.items-test.false c.items.invariant.1 (rw c.items.invariant.0 at c.parts.ensures.first)
