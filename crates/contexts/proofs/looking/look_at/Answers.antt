use Rattle.std.proofs.Common.{refl}
use Rattle.term_pool.proofs.Depth.{is_cell}
use Rattle.contexts.proofs.ClosedLemmas.{itself_known, cell_closed}
use Rattle.contexts.proofs.looking.look_at.Goals as goal

pub returns-in-Untold-clause-next : goal.returns-in-Untold-clause-next
returns-in-Untold-clause-next c =
    is_cell _ c.parts_of_trees.ensures _ c.requires.cell.first (c.cell_parts-first.ensures.first _ _ c.requires.cell.stands) (c.in-Untold.ensures.untold refl)

pub returns-in-Untold-below : goal.returns-in-Untold-below
returns-in-Untold-below c = record {
  closed = c.look-below.ensures.kept _ (c.look-above.ensures.kept _ c.requires.closed);
  next = is_cell _ c.parts_of_trees.ensures _ c.requires.cell.second (c.cell_parts-first.ensures.second _ _ c.requires.cell.stands) (c.in-Untold-below.ensures.untold refl);
  same = c.cell_parts-first.ensures.same;
}

pub returns-clause-next : goal.returns-clause-next
returns-clause-next c told =
    let both = c.joined.ensures told in
    let pass = c.args.terms.now.pass in
    let cell = c.requires.cell in
    let first = c.cell_parts-first.ensures.first _ _ cell.stands in
    let second = c.cell_parts-first.ensures.second _ _ cell.stands in
    let before = c.look-above.ensures.kept pass c.requires.closed in
    cell_closed pass c.one_to_one.ensures _ _ _ _ _ _ cell.stands first second
    (c.look-below.ensures.more pass _ (c.look-above.ensures.closed both.0 pass c.requires.closed (λ low. itself_known pass c.one_to_one.ensures c.parts_of_trees.ensures _ _ first low)))
    (c.look-below.ensures.closed both.1 pass before (λ low. itself_known pass c.one_to_one.ensures c.parts_of_trees.ensures _ _ second low))

pub returns-clause-closed : goal.returns-clause-closed
returns-clause-closed c = c.look-below.ensures.kept _ (c.look-above.ensures.kept _ c.requires.closed)
