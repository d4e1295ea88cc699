use Rattle.contexts.proofs.References.{rest_cell}
use Rattle.contexts.proofs.SearchSteps.{rest_list, hidden_let, open_let}
use Rattle.contexts.proofs.free.leave_let.Goals as goal

pub cell_parts-list-requires : goal.cell_parts-list-requires
cell_parts-list-requires c = rest_cell _ _ c.requires

pub leave_values-requires : goal.leave_values-requires
leave_values-requires c =
    rw c.cell_parts-list.ensures.same
    (rest_list _ c.one_to_one.ensures c.args.leaf _ _ _ c.cell_parts-list.ensures.first c.cell_parts-list.ensures.second c.requires)

pub returns-in_ok-push-clause-parts : goal.returns-in_ok-push-clause-parts
returns-in_ok-push-clause-parts c =
    open_let _ c.one_to_one.ensures _ _ _ _ c.cell_parts-list.ensures.first c.cell_parts-list.ensures.second _ _ _ _
    (rw c.cell_parts-list.ensures.same at c.in_ok-hidden.ensures.values) (λ e. let f = c.if-not-hidden.true in absurd cc) c.in_ok-push.ensures.items

pub returns-else-not-hidden-clause-parts : goal.returns-else-not-hidden-clause-parts
returns-else-not-hidden-clause-parts c =
    hidden_let _ c.one_to_one.ensures _ _ _ _ c.cell_parts-list.ensures.first c.cell_parts-list.ensures.second _ _ _
    (rw c.cell_parts-list.ensures.same at c.in_ok-hidden.ensures.values) c.if-not-hidden.false
