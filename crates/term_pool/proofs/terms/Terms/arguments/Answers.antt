use Rattle.std.proofs.Common.{◌<◌, ◌≤◌, ◌^◌, arith}
use Rattle.std.proofs.lemmas.Result.{on_ok_weaker}
use Rattle.term_pool.proofs.PartLemmas.{leaf_arguments, added_arguments, added_known, added_kept}
use Rattle.term_pool.proofs.ReadingLemmas.{reference_cell, second_known}
use Rattle.term_pool.proofs.terms.Terms.arguments.Goals as goal

pub returns-then-is_leaf-clause-arguments : goal.returns-then-is_leaf-clause-arguments
returns-then-is_leaf-clause-arguments c =
    let low : c.args.r < 2 ^ 30 = grind arith in
    rw (← c.self.view_is)
    (λ s t h never. leaf_arguments s _ c.one_to_one.ensures c.parts_of_trees.ensures c.args.r c.args.into.now.items low t h)

pub parts-list-requires-clause-tree : goal.parts-list-requires-clause-tree
parts-list-requires-clause-tree c =
    let above : 2 ^ 30 ≤ c.args.r = grind arith in
    reference_cell _ _ c.parts_of_trees.ensures above (rw (← c.self.view_is) at c.requires)

pub items-requires-clause-known : goal.items-requires-clause-known
items-requires-clause-known c =
    let above : 2 ^ 30 ≤ c.args.r = grind arith in
    rw c.parts-list.ensures.same
    (second_known _ c.args.r _ (reference_cell _ _ c.parts_of_trees.ensures above (rw (← c.self.view_is) at c.requires))
    c.parts-list.ensures.second)

pub returns-clause-kept : goal.returns-clause-kept
returns-clause-kept c = on_ok_weaker c.items.result (λ adds. added_kept _ _ _ _ adds) c.items.ensures.added

pub returns-clause-arguments : goal.returns-clause-arguments
returns-clause-arguments c =
    let above : 2 ^ 30 ≤ c.args.r = grind arith in
    rw (← c.self.view_is, c.items.ensures.same, c.parts-list.ensures.same)
    (on_ok_weaker c.items.result
    (λ adds s t h never.
    added_arguments s _ c.one_to_one.ensures c.args.r _ _ _
    (reference_cell _ _ c.parts_of_trees.ensures above (rw (← c.self.view_is) at c.requires)) c.parts-list.ensures.second
    adds t h never) (rw c.parts-list.ensures.same at c.items.ensures.added))

pub returns-clause-known : goal.returns-clause-known
returns-clause-known c =
    let above : 2 ^ 30 ≤ c.args.r = grind arith in
    rw (c.items.ensures.same, c.parts-list.ensures.same)
    (on_ok_weaker c.items.result
    (λ adds.
    added_known _ c.args.r _ _ _
    (reference_cell _ _ c.parts_of_trees.ensures above (rw (← c.self.view_is) at c.requires)) c.parts-list.ensures.second
    adds) (rw c.parts-list.ensures.same at c.items.ensures.added))
