use Rattle.std.proofs.Common.{sym}
use Rattle.term_pool.proofs.PairLemmas.{split_of}
use Rattle.flip_keys.proofs.Visits.{sides_done, application_done}
use Rattle.flip_keys.proofs.visiting.visit_application.Goals as goal

pub returns-in-Numbers-clause-visit : goal.returns-in-Numbers-clause-visit
returns-in-Numbers-clause-visit c =
    let split = split_of _ _ _ _ c.requires.cell c.cell_parts-head.ensures.first c.cell_parts-head.ensures.second in
    rw c.sides.ensures
    (sides_done _ c.one_to_one.ensures c.parts_of_trees.ensures c.args.memo.now _ _ _ _ _ _ split
    (rw (c.in-Some.is, c.cell_parts-head.ensures.same) at c.sides_by.ensures.sides) (rw c.in-Numbers.is at c.numbers_of.ensures))

pub returns-in-Some-look-clause-visit : goal.returns-in-Some-look-clause-visit
returns-in-Some-look-clause-visit c =
    let split = split_of _ _ _ _ c.requires.cell c.cell_parts-head.ensures.first c.cell_parts-head.ensures.second in
    application_done _ c.one_to_one.ensures c.parts_of_trees.ensures c.args.memo.now _ _ _ _ split c.requires.head
    (rw (c.in_default.is, c.cell_parts-head.ensures.same) at c.sides_by.ensures.sides) (sym (rw c.in-Some-look.is at c.look.ensures))
