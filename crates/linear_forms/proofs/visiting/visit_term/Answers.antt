use Rattle.std.proofs.Common.{◌<◌, ◌≤◌, ◌^◌, arith}
use Rattle.std.proofs.lemmas.Result.{IfOk-weaker}
use Rattle.term_pool.proofs.ReadingLemmas.{reference_cell}
use Rattle.linear_forms.proofs.Meaning.{leaf_there}
use Rattle.linear_forms.proofs.Meeting.{parts_deeper}
use Rattle.linear_forms.proofs.Visited.{parts_of, leaf_visited, plus_visited, minus_visited, times_visited, other_visited, minus_list, minus_numeral, head_known}
use Rattle.linear_forms.proofs.visiting.visit_term.Goals as goal

pub leaf_entry-requires : goal.leaf_entry-requires
leaf_entry-requires c =
    let low : c.args.r < 2 ^ 30 = grind arith in
    leaf_there c.args.symbols.now c.args.terms.now c.leaves_differ.ensures.table c.one_to_one.ensures c.parts_of_trees.ensures
    c.args.r c.requires.term.means c.requires.term.refers low

pub returns-then-is_leaf-clause-visit : goal.returns-then-is_leaf-clause-visit
returns-then-is_leaf-clause-visit c =
    let low : c.args.r < 2 ^ 30 = grind arith in
    leaf_visited c.args.symbols.now c.args.terms.now c.args.graph.now c.leaves_differ.ensures.table c.one_to_one.ensures c.parts_of_trees.ensures
    c.args.r c.leaf_entry.result low (rw c.count.ensures at c.leaf_entry.ensures)

pub cell_parts-head-requires : goal.cell_parts-head-requires
cell_parts-head-requires c =
    let above : 2 ^ 30 ≤ c.args.r = grind arith in
    reference_cell _ _ c.parts_of_trees.ensures above (record { tree = c.requires.term.refers.tree; stands = c.requires.term.refers.known })

pub head_of-requires : goal.head_of-requires
head_of-requires c =
    let above : 2 ^ 30 ≤ c.args.r = grind arith in
    let cell = reference_cell _ _ c.parts_of_trees.ensures above (record { tree = c.requires.term.refers.tree; stands = c.requires.term.refers.known }) in
    let parts = parts_of _ c.args.r c.cell_parts-head.result.0 c.cell_parts-head.result.1 cell c.cell_parts-head.ensures.first c.cell_parts-head.ensures.second in
    rw c.number.ensures.number
    (head_known c.args.symbols.now c.args.terms.now c.args.graph.now c.leaves_differ.ensures.table c.one_to_one.ensures c.parts_of_trees.ensures
    c.args.r c.cell_parts-head.result.0 c.cell_parts-head.result.1 c.requires.term.means c.requires.term.refers parts)

pub visit_difference-requires-clause-list : goal.visit_difference-requires-clause-list
visit_difference-requires-clause-list c =
    let above : 2 ^ 30 ≤ c.args.r = grind arith in
    let cell = reference_cell _ _ c.parts_of_trees.ensures above (record { tree = c.requires.term.refers.tree; stands = c.requires.term.refers.known }) in
    let parts = parts_of _ c.args.r c.cell_parts-head.result.0 c.cell_parts-head.result.1 cell c.cell_parts-head.ensures.first c.cell_parts-head.ensures.second in
    rw c.cell_parts-head.ensures.same
    (minus_list c.args.symbols.now c.args.terms.now c.args.graph.now c.leaves_differ.ensures.table c.one_to_one.ensures c.parts_of_trees.ensures
    c.args.r c.cell_parts-head.result.0 c.cell_parts-head.result.1 c.requires.term.means c.requires.term.refers parts
    (rw (c.in-Minus.is, c.number.ensures.number) at c.head_of.ensures))

pub visit_difference-requires-clause-leaf : goal.visit_difference-requires-clause-leaf
visit_difference-requires-clause-leaf c =
    let above : 2 ^ 30 ≤ c.args.r = grind arith in
    let cell = reference_cell _ _ c.parts_of_trees.ensures above (record { tree = c.requires.term.refers.tree; stands = c.requires.term.refers.known }) in
    let parts = parts_of _ c.args.r c.cell_parts-head.result.0 c.cell_parts-head.result.1 cell c.cell_parts-head.ensures.first c.cell_parts-head.ensures.second in
    rw c.cell_parts-head.ensures.same
    (minus_numeral c.args.symbols.now c.args.terms.now c.args.graph.now c.leaves_differ.ensures.table c.one_to_one.ensures c.parts_of_trees.ensures
    c.args.r c.cell_parts-head.result.0 c.cell_parts-head.result.1 c.requires.term.means c.requires.term.refers parts
    (rw (c.in-Minus.is, c.number.ensures.number) at c.head_of.ensures))

pub returns-in-Plus-clause-visit : goal.returns-in-Plus-clause-visit
returns-in-Plus-clause-visit c =
    let above : 2 ^ 30 ≤ c.args.r = grind arith in
    let cell = reference_cell _ _ c.parts_of_trees.ensures above (record { tree = c.requires.term.refers.tree; stands = c.requires.term.refers.known }) in
    let parts = parts_of _ c.args.r c.cell_parts-head.result.0 c.cell_parts-head.result.1 cell c.cell_parts-head.ensures.first c.cell_parts-head.ensures.second in
    plus_visited c.args.symbols.now c.args.terms.now c.args.graph.now c.leaves_differ.ensures.table c.one_to_one.ensures c.parts_of_trees.ensures
    c.args.r c.cell_parts-head.result.0 c.cell_parts-head.result.1 c.requires.term.means c.requires.term.refers parts c.visit_sum.result
    (rw (c.in-Plus.is, c.number.ensures.number) at c.head_of.ensures) c.visit_sum.ensures

pub returns-in-Minus-clause-visit : goal.returns-in-Minus-clause-visit
returns-in-Minus-clause-visit c =
    let above : 2 ^ 30 ≤ c.args.r = grind arith in
    let cell = reference_cell _ _ c.parts_of_trees.ensures above (record { tree = c.requires.term.refers.tree; stands = c.requires.term.refers.known }) in
    let parts = parts_of _ c.args.r c.cell_parts-head.result.0 c.cell_parts-head.result.1 cell c.cell_parts-head.ensures.first c.cell_parts-head.ensures.second in
    IfOk-weaker c.visit_difference.result _ _
    (λ visit h.
    minus_visited c.args.symbols.now c.args.terms.now c.visit_difference.new.graph c.leaves_differ.ensures.table c.one_to_one.ensures c.parts_of_trees.ensures
    c.args.r c.cell_parts-head.result.0 c.cell_parts-head.result.1 c.requires.term.means c.requires.term.refers parts visit
    (rw (c.in-Minus.is, c.number.ensures.number) at c.head_of.ensures) h)
    (rw c.cell_parts-head.ensures.same at c.visit_difference.ensures.visit)

pub returns-in-Minus-clause-graph : goal.returns-in-Minus-clause-graph
returns-in-Minus-clause-graph c =
    let above : 2 ^ 30 ≤ c.args.r = grind arith in
    let cell = reference_cell _ _ c.parts_of_trees.ensures above (record { tree = c.requires.term.refers.tree; stands = c.requires.term.refers.known }) in
    let parts = parts_of _ c.args.r c.cell_parts-head.result.0 c.cell_parts-head.result.1 cell c.cell_parts-head.ensures.first c.cell_parts-head.ensures.second in
    IfOk-weaker c.visit_difference.result _ _
    (λ visit h.
    parts_deeper c.args.symbols.now c.args.terms.now c.leaves_differ.ensures.table c.one_to_one.ensures c.parts_of_trees.ensures
    c.args.graph.now c.visit_difference.new.graph c.args.r c.cell_parts-head.result.0 c.cell_parts-head.result.1 parts h)
    (rw c.cell_parts-head.ensures.same at c.visit_difference.ensures.graph)

pub returns-in-Times-clause-visit : goal.returns-in-Times-clause-visit
returns-in-Times-clause-visit c =
    let above : 2 ^ 30 ≤ c.args.r = grind arith in
    let cell = reference_cell _ _ c.parts_of_trees.ensures above (record { tree = c.requires.term.refers.tree; stands = c.requires.term.refers.known }) in
    let parts = parts_of _ c.args.r c.cell_parts-head.result.0 c.cell_parts-head.result.1 cell c.cell_parts-head.ensures.first c.cell_parts-head.ensures.second in
    times_visited c.args.symbols.now c.args.terms.now c.args.graph.now c.leaves_differ.ensures.table c.one_to_one.ensures c.parts_of_trees.ensures
    c.args.r c.cell_parts-head.result.0 c.cell_parts-head.result.1 c.requires.term.means c.requires.term.refers parts c.visit_product.result
    (rw (c.in-Times.is, c.number.ensures.number) at c.head_of.ensures) c.visit_product.ensures

pub returns-in-Other-clause-visit : goal.returns-in-Other-clause-visit
returns-in-Other-clause-visit c =
    let above : 2 ^ 30 ≤ c.args.r = grind arith in
    let cell = reference_cell _ _ c.parts_of_trees.ensures above (record { tree = c.requires.term.refers.tree; stands = c.requires.term.refers.known }) in
    let parts = parts_of _ c.args.r c.cell_parts-head.result.0 c.cell_parts-head.result.1 cell c.cell_parts-head.ensures.first c.cell_parts-head.ensures.second in
    other_visited c.args.symbols.now c.args.terms.now c.args.graph.now c.leaves_differ.ensures.table c.one_to_one.ensures c.parts_of_trees.ensures
    c.args.r c.cell_parts-head.result.0 c.cell_parts-head.result.1 c.requires.term.means c.requires.term.refers parts c.opaque_entry.result
    (rw (c.in-Other.is, c.number.ensures.number) at c.head_of.ensures) (rw c.count-in-Other.ensures at c.opaque_entry.ensures)
