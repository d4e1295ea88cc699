use Rattle.std.proofs.Common.{◌<◌, ◌^◌, arith}
use Rattle.linear_forms.proofs.Meaning.{leaf_there}
use Rattle.linear_forms.proofs.Meeting.{leaf_met}
use Rattle.linear_forms.proofs.graph.Graph.meet.Goals as goal

pub leaf_entry-entry-requires : goal.leaf_entry-entry-requires
leaf_entry-entry-requires c =
    let low : c.args.r < 2 ^ 30 = grind arith in
    leaf_there c.args.symbols.now c.args.terms.now c.leaves_differ.ensures.table c.one_to_one.ensures c.parts_of_trees.ensures
    c.args.r c.requires.term.means c.requires.term.refers low

pub returns-clause-met : goal.returns-clause-met
returns-clause-met c =
    let low : c.args.r < 2 ^ 30 = grind arith in
    rw c.count-number.ensures
    (leaf_met c.args.symbols.now c.args.terms.now c.leaves_differ.ensures.table c.one_to_one.ensures c.parts_of_trees.ensures
    c.args.self.now c.settle.new.self c.args.r c.leaf_entry-entry.result c.requires.graph c.requires.term low
    (rw c.in_default.is at c.find.ensures) (rw c.count-number.ensures at c.leaf_entry-entry.ensures) c.in_ok-settle.ensures)
