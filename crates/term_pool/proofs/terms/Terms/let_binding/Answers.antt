use Rattle.std.proofs.Common.{◌∙◌}
use Rattle.term_pool.proofs.ReadingLemmas.{binding_item, binding_pair, binding_refers, second_known}
use Rattle.term_pool.proofs.terms.Terms.let_binding.Goals as goal

pub item-pair-requires-clause-there : goal.item-pair-requires-clause-there
item-pair-requires-clause-there c =
    rw (c.parts-list.ensures.same, c.parts-rest.ensures.same)
    (binding_item _ _ _ _ _ (rw (← c.self.view_is) at c.requires) c.parts-rest.ensures.second
    (rw c.parts-rest.ensures.same at c.parts-list.ensures.first))

pub parts-var-requires-clause-tree : goal.parts-var-requires-clause-tree
parts-var-requires-clause-tree c =
    rw (c.item-pair.ensures.same, c.parts-list.ensures.same, c.parts-rest.ensures.same)
    (binding_pair _ _ _ _ _ _ (rw (← c.self.view_is) at c.requires) c.parts-rest.ensures.second
    (rw c.parts-rest.ensures.same at c.parts-list.ensures.first)
    (rw (c.parts-list.ensures.same, c.parts-rest.ensures.same) at c.item-pair.ensures.item))

pub returns-clause-binding : goal.returns-clause-binding
returns-clause-binding c =
    rw (← c.self.view_is, c.number.ensures.number)
    (λ s t x u.
    binding_refers s _ _ _ _ _ _ _ _ _ c.parts_of_trees.ensures
    (c.parts-var.ensures.same ∙ c.item-pair.ensures.same ∙ c.parts-list.ensures.same ∙ c.parts-rest.ensures.same)
    c.parts-rest.ensures.second (rw c.parts-rest.ensures.same at c.parts-list.ensures.first)
    (rw (c.parts-list.ensures.same, c.parts-rest.ensures.same) at c.item-pair.ensures.item)
    (rw (c.item-pair.ensures.same, c.parts-list.ensures.same, c.parts-rest.ensures.same) at c.parts-var.ensures.first)
    (rw (c.item-pair.ensures.same, c.parts-list.ensures.same, c.parts-rest.ensures.same) at c.parts-var.ensures.second) t
    x u)

pub returns-clause-known : goal.returns-clause-known
returns-clause-known c =
    rw (c.parts-var.ensures.same, c.item-pair.ensures.same, c.parts-list.ensures.same, c.parts-rest.ensures.same)
    (second_known _ _ _
    (binding_pair _ _ _ _ _ _ (rw (← c.self.view_is) at c.requires) c.parts-rest.ensures.second
    (rw c.parts-rest.ensures.same at c.parts-list.ensures.first)
    (rw (c.parts-list.ensures.same, c.parts-rest.ensures.same) at c.item-pair.ensures.item))
    (rw (c.item-pair.ensures.same, c.parts-list.ensures.same, c.parts-rest.ensures.same) at c.parts-var.ensures.second))
