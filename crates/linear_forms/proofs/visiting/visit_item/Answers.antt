use Rattle.std.proofs.lemmas.Result.{IfOk-weaker}
use Rattle.linear_forms.proofs.Visited.{list_visited}
use Rattle.linear_forms.proofs.visiting.visit_item.Goals as goal

pub returns-in-List-clause-visit : goal.returns-in-List-clause-visit
returns-in-List-clause-visit c =
    rw c.in-List.is
    (IfOk-weaker c.visit_list.result _ _
    (λ visit h.
    list_visited c.args.symbols.now c.args.terms.now c.visit_list.new.graph c.leaves_differ.ensures.table c.one_to_one.ensures c.parts_of_trees.ensures
    c.in-List.r c.requires.item.terms visit (rw c.in-List.is at c.requires.item.meant) h)
    c.visit_list.ensures.visit)
