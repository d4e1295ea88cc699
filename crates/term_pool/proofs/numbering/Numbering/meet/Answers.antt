use Rattle.std.proofs.Common.{◌∙◌, ap, refl, arith, [], ◌∷◌, ◌++◌, length}
use Rattle.term_pool.proofs.NumberingLemmas.{few_cells, next_cell}
use Rattle.term_pool.proofs.numbering.Numbering.meet.Goals as goal

pub overflow_cast-len : goal.overflow_cast-len
overflow_cast-len c =
    let few = few_cells _ c.requires.numbering in
    let same = ap length c.in_ok-spread.ensures.cells in
    omega (arith, c.len.ensures)

pub put-requires-clause-fits : goal.put-requires-clause-fits
put-requires-clause-fits c =
    let few = few_cells _ c.requires.numbering in
    let same = ap length c.in_ok-spread.ensures.cells in
    omega (arith, c.len.ensures)

pub returns : goal.returns
returns c = record {
  numbering =
      next_cell c.spread.new.self _ c.in_ok-spread.ensures.numbering c.args.r
      (rw c.spread.ensures.places c.requires.place) (rw c.spread.ensures.cells c.requires.new) refl
      (c.in_ok-push.ensures.items ∙ ap (λ x. c.spread.new.self.cells.items ++ x ∷ []) c.number-2.ensures.number)
      (rw (c.number.ensures.number, c.len.ensures, c.spread.new.self.cells.ok.0) at c.in_ok-put.ensures.found) c.in_ok-put.ensures.room;
  places = c.spread.ensures.places;
  cells = c.in_ok-push.ensures.items ∙ rw (c.number-2.ensures.number, c.spread.ensures.cells);
  few = let few = few_cells _ c.requires.numbering in omega arith;
}
