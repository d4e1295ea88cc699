use Rattle.std.proofs.Common.{◌<◌, ◌≤◌, ◌^◌, arith}
use Rattle.term_pool.proofs.PartLemmas.{leaf_head, cell_head, let_head_is, variable_low}
use Rattle.term_pool.proofs.ReadingLemmas.{reference_cell}
use Rattle.term_pool.proofs.terms.Terms.head.Goals as goal

pub returns-then-is_leaf-clause-application : goal.returns-then-is_leaf-clause-application
returns-then-is_leaf-clause-application c =
    let low : c.args.r < 2 ^ 30 = grind arith in
    rw (← c.self.view_is)
    (λ s t table h. leaf_head s _ c.one_to_one.ensures c.parts_of_trees.ensures c.args.r _ c.number.ensures.number low t h)

pub parts-requires-clause-tree : goal.parts-requires-clause-tree
parts-requires-clause-tree c =
    let above : 2 ^ 30 ≤ c.args.r = grind arith in
    reference_cell _ _ c.parts_of_trees.ensures above (rw (← c.self.view_is) at c.requires)

pub returns-then-head-eq-LET-clause-let_term : goal.returns-then-head-eq-LET-clause-let_term
returns-then-head-eq-LET-clause-let_term c =
    let above : 2 ^ 30 ≤ c.args.r = grind arith in
    rw (← c.self.view_is)
    (λ s t table h.
    let_head_is s _ table c.one_to_one.ensures c.parts_of_trees.ensures c.args.r _ _
    (reference_cell _ _ c.parts_of_trees.ensures above (rw (← c.self.view_is) at c.requires)) c.parts.ensures.first
    c.number-head.ensures.number c.if-head-eq-LET.true t h)

pub returns-clause-application : goal.returns-clause-application
returns-clause-application c =
    let above : 2 ^ 30 ≤ c.args.r = grind arith in
    rw (← c.self.view_is)
    (λ s t table h.
    cell_head s _ c.one_to_one.ensures c.parts_of_trees.ensures c.args.r _ _
    (reference_cell _ _ c.parts_of_trees.ensures above (rw (← c.self.view_is) at c.requires)) c.parts.ensures.first
    c.number-head.ensures.number c.if-head-eq-LET.false t h)

pub returns-then-is_leaf-clause-variable : goal.returns-then-is_leaf-clause-variable
returns-then-is_leaf-clause-variable c = λ s x h. c.number.ensures.number

pub returns-clause-variable : goal.returns-clause-variable
returns-clause-variable c =
    let above : 2 ^ 30 ≤ c.args.r = grind arith in
    rw (← c.self.view_is)
    (λ s x h. let low = variable_low s _ c.parts_of_trees.ensures c.args.r x h in absurd (omega arith))
