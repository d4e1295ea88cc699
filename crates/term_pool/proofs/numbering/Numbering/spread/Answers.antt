use Rattle.std.proofs.Common.{refl, arith}
use Rattle.term_pool.proofs.NumberingLemmas.{numbers_by_place, few_cells, cells_distinct}
use Rattle.term_pool.proofs.numbering.Numbering.spread.Goals as goal

pub by_place-requires-clause-few : goal.by_place-requires-clause-few
by_place-requires-clause-few c = rw c.deref.ensures.value (let few = few_cells _ c.requires in omega arith)

pub by_place-requires-clause-distinct : goal.by_place-requires-clause-distinct
by_place-requires-clause-distinct c = rw c.deref.ensures.value (cells_distinct _ c.requires)

pub returns-in_ok-by_place-clause-numbering : goal.returns-in_ok-by_place-clause-numbering
returns-in_ok-by_place-clause-numbering c =
    numbers_by_place c.args.self.now _ c.requires refl refl c.in_ok-by_place.field-0.items (λ r. refl) (λ r h. h)
    (rw c.deref.ensures.value at c.in_ok-by_place.ensures)
