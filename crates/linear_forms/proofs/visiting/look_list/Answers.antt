use Rattle.linear_forms.proofs.Meeting.{first_is_term, list_met, first_unmet}
use Rattle.linear_forms.proofs.visiting.look_list.Goals as goal

pub meet-requires-clause-term : goal.meet-requires-clause-term
meet-requires-clause-term c =
    rw c.cell_parts-first.ensures.same
    (first_is_term c.args.symbols.now c.args.terms.now c.leaves_differ.ensures.table c.one_to_one.ensures c.parts_of_trees.ensures
    c.args.list c.cell_parts-first.result.0 c.cell_parts-first.result.1 c.requires.list c.cell_parts-first.ensures.first c.cell_parts-first.ensures.second)

pub meet-requires-2-clause-term : goal.meet-requires-2-clause-term
meet-requires-2-clause-term c =
    rw c.cell_parts-first.ensures.same
    (first_is_term c.args.symbols.now c.args.terms.now c.leaves_differ.ensures.table c.one_to_one.ensures c.parts_of_trees.ensures
    c.args.list c.cell_parts-first.result.0 c.cell_parts-first.result.1 c.requires.list c.cell_parts-first.ensures.first c.cell_parts-first.ensures.second)

pub returns-in-None-clause-graph : goal.returns-in-None-clause-graph
returns-in-None-clause-graph c =
    list_met c.args.symbols.now c.args.terms.now c.leaves_differ.ensures.table c.one_to_one.ensures c.parts_of_trees.ensures
    c.args.graph.now c.meet.new.self c.args.list c.cell_parts-first.result.0 c.cell_parts-first.result.1 _ c.requires.list
    c.cell_parts-first.ensures.first c.cell_parts-first.ensures.second (rw c.cell_parts-first.ensures.same at c.in_ok-meet.ensures.met)

pub returns-in-Some-clause-graph : goal.returns-in-Some-clause-graph
returns-in-Some-clause-graph c =
    list_met c.args.symbols.now c.args.terms.now c.leaves_differ.ensures.table c.one_to_one.ensures c.parts_of_trees.ensures
    c.args.graph.now c.meet.new.self c.args.list c.cell_parts-first.result.0 c.cell_parts-first.result.1 _ c.requires.list
    c.cell_parts-first.ensures.first c.cell_parts-first.ensures.second (rw c.cell_parts-first.ensures.same at c.in_ok-meet.ensures.met)

pub returns-in-None-2-clause-listed : goal.returns-in-None-2-clause-listed
returns-in-None-2-clause-listed c =
    first_unmet c.args.symbols.now c.args.terms.now c.leaves_differ.ensures.table c.one_to_one.ensures c.parts_of_trees.ensures
    c.args.graph.now c.meet-2.new.self c.args.list c.cell_parts-first.result.0 c.cell_parts-first.result.1 c.requires.list
    c.cell_parts-first.ensures.first c.cell_parts-first.ensures.second (rw (c.cell_parts-first.ensures.same, c.in-None-2.is) at c.in_ok-meet-2.ensures.met)

pub returns-in-None-2-clause-graph : goal.returns-in-None-2-clause-graph
returns-in-None-2-clause-graph c =
    list_met c.args.symbols.now c.args.terms.now c.leaves_differ.ensures.table c.one_to_one.ensures c.parts_of_trees.ensures
    c.args.graph.now c.meet-2.new.self c.args.list c.cell_parts-first.result.0 c.cell_parts-first.result.1 _ c.requires.list
    c.cell_parts-first.ensures.first c.cell_parts-first.ensures.second (rw c.cell_parts-first.ensures.same at c.in_ok-meet-2.ensures.met)

pub returns-in-Some-2-clause-graph : goal.returns-in-Some-2-clause-graph
returns-in-Some-2-clause-graph c =
    list_met c.args.symbols.now c.args.terms.now c.leaves_differ.ensures.table c.one_to_one.ensures c.parts_of_trees.ensures
    c.args.graph.now c.meet-2.new.self c.args.list c.cell_parts-first.result.0 c.cell_parts-first.result.1 _ c.requires.list
    c.cell_parts-first.ensures.first c.cell_parts-first.ensures.second (rw c.cell_parts-first.ensures.same at c.in_ok-meet-2.ensures.met)
