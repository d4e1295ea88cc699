use Rattle.std.proofs.Common.{◌∙◌, ◌≡◌, arith, ap, ◌++◌, ◌∷◌, []}
use Rattle.std.proofs.lemmas.Result.{on_ok_weaker}
use Rattle.contexts.proofs.SearchSteps.{plain_parts, let_rest, let_parts}
use Rattle.contexts.proofs.free.leave_parts.Goals as goal

pub leave_let-requires : goal.leave_let-requires
leave_let-requires c =
    let is : c.cell_parts-first.result.0 ≡ 1 = grind arith in
    rw c.cell_parts-first.ensures.same
    (let_rest _ c.one_to_one.ensures c.parts_of_trees.ensures c.args.leaf _ _ _ c.cell_parts-first.ensures.first c.cell_parts-first.ensures.second is c.requires.shaped c.requires.cell)

pub returns-then-number-eq-LET-clause-parts : goal.returns-then-number-eq-LET-clause-parts
returns-then-number-eq-LET-clause-parts c =
    let is : c.cell_parts-first.result.0 ≡ 1 = grind arith in
    on_ok_weaker c.leave_let.result
    (let_parts _ c.one_to_one.ensures c.parts_of_trees.ensures _ _ _ _ c.cell_parts-first.ensures.first c.cell_parts-first.ensures.second is _ _ c.requires.cell)
    (rw c.cell_parts-first.ensures.same at c.leave_let.ensures.parts)

pub returns-clause-parts : goal.returns-clause-parts
returns-clause-parts c =
    plain_parts _ c.one_to_one.ensures c.parts_of_trees.ensures _ _ _ _ c.cell_parts-first.ensures.first c.cell_parts-first.ensures.second
    (λ e. absurd (grind arith)) _ _ c.requires.cell (c.in_ok-push-2.ensures.items ∙ ap (λ u. u ++ c.cell_parts-first.result.1 ∷ []) c.in_ok-push.ensures.items)
