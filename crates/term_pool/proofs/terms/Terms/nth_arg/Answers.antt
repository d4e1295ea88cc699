use Rattle.std.proofs.Common.{◌∙◌}
use Rattle.term_pool.proofs.ReadingLemmas.{argument_cell, argument_item, argument_refers, item_known}
use Rattle.term_pool.proofs.terms.Terms.nth_arg.Goals as goal

pub parts-list-requires-clause-tree : goal.parts-list-requires-clause-tree
parts-list-requires-clause-tree c = argument_cell _ _ _ (rw (← c.self.view_is) at c.requires)

pub item-requires-clause-there : goal.item-requires-clause-there
item-requires-clause-there c =
    rw c.parts-list.ensures.same
    (argument_item _ _ _ _ (rw (← c.self.view_is) at c.requires) c.parts-list.ensures.second)

pub returns-clause-argument : goal.returns-clause-argument
returns-clause-argument c =
    rw (← c.self.view_is)
    (λ s t a.
    argument_refers s _ _ _ _ _ _ (c.item.ensures.same ∙ c.parts-list.ensures.same) c.parts-list.ensures.second
    (rw c.parts-list.ensures.same at c.item.ensures.item) t a)

pub returns-clause-known : goal.returns-clause-known
returns-clause-known c =
    rw (c.item.ensures.same, c.parts-list.ensures.same)
    (item_known _ _ _ _
    (argument_item _ _ _ _ (rw (← c.self.view_is) at c.requires) c.parts-list.ensures.second)
    (rw c.parts-list.ensures.same at c.item.ensures.item))
