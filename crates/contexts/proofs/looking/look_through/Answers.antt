use Rattle.std.proofs.Common.{refl, ◌∙◌, arith}
use Rattle.contexts.specs.Becoming.{look_of}
use Rattle.contexts.proofs.ClosedLemmas.{known_cell, known_first, known_above, none_known}
use Rattle.contexts.proofs.looking.look_through.Goals as goal

pub cells-init : goal.cells-init
cells-init c = record {
  same = refl;
  closed = c.fit.ensures _ _ c.requires.closed;
  at = known_cell _ c.parts_of_trees.ensures _ c.requires.known (grind arith);
  way = none_known _ _ c.new-way.ensures.items;
}

pub cells-preserved : goal.cells-preserved
cells-preserved c =
    let h = c.cells.invariant in
    record {
      same = c.look_at.ensures.same ∙ h.same;
      closed = c.tell.ensures c.args.terms.now.pass (look_of c.args.images.now) (rw h.same at c.look_at.ensures.closed) (rw h.same at c.in-Told.ensures.next);
      at = known_above _ c.pop.new.self.items _ _ c.in-Some.ensures.items h.way;
      way = known_first _ c.pop.new.self.items _ _ c.in-Some.ensures.items h.way;
    }
