use Rattle.std.proofs.Common.{◌<◌, ◌≤◌, ◌^◌, arith}
use Rattle.term_pool.proofs.ReadingLemmas.{leaf_counts, cell_counts, reference_cell, second_known}
use Rattle.term_pool.proofs.terms.Terms.arg_count.Goals as goal

pub returns-then-is_leaf-clause-count : goal.returns-then-is_leaf-clause-count
returns-then-is_leaf-clause-count c =
    let low : c.args.r < 2 ^ 30 = grind arith in
    rw (← c.self.view_is)
    (λ s t h never. leaf_counts s _ c.args.r t c.one_to_one.ensures c.parts_of_trees.ensures low h)

pub parts-list-requires-clause-tree : goal.parts-list-requires-clause-tree
parts-list-requires-clause-tree c =
    let above : 2 ^ 30 ≤ c.args.r = grind arith in
    reference_cell _ _ c.parts_of_trees.ensures above (rw (← c.self.view_is) at c.requires)

pub length-requires-clause-known : goal.length-requires-clause-known
length-requires-clause-known c =
    let above : 2 ^ 30 ≤ c.args.r = grind arith in
    rw c.parts-list.ensures.same
    (second_known _ c.args.r _ (reference_cell _ _ c.parts_of_trees.ensures above (rw (← c.self.view_is) at c.requires))
    c.parts-list.ensures.second)

pub returns-clause-count : goal.returns-clause-count
returns-clause-count c =
    let above : 2 ^ 30 ≤ c.args.r = grind arith in
    rw (← c.self.view_is)
    (λ s t h never.
    cell_counts s _ c.args.r _ _ t
    (reference_cell _ _ c.parts_of_trees.ensures above (rw (← c.self.view_is) at c.requires)) c.one_to_one.ensures
    c.parts-list.ensures.second (rw c.parts-list.ensures.same at c.length.ensures.length) h never)
