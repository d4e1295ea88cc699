use Rattle.std.proofs.Common.{◌∙◌, arith}
use Rattle.term_pool.specs.Reading.{arguments_of}
use Rattle.schema_match.proofs.ArgumentCells.{many_cell, read_none, read_more, read_all, some_list}
use Rattle.schema_match.proofs.arguments.read_arguments.Goals as goal

pub cell_parts-rest-requires : goal.cell_parts-rest-requires
cell_parts-rest-requires c = many_cell _ _ _ c.requires.some c.requires.count

pub items-init : goal.items-init
items-init c = record {
  same = c.cell_parts-rest.ensures.same;
  read = λ s t refers count. read_none s _ _ _ _ _ t c.requires.some c.clear.ensures.items c.cell_parts-rest.ensures.second refers count;
}

pub first_item-first-requires : goal.first_item-first-requires
first_item-first-requires c =
    rw c.items.invariant.same (some_list _ _ _ _ _ _ c.items-test.true c.requires.count c.items.invariant.read)

pub items-preserved : goal.items-preserved
items-preserved c = record {
  same = c.first_item-first.ensures.same ∙ c.items.invariant.same;
  read = λ s t refers count.
      read_more s _ _ _ _ _ _ _ (arguments_of t) (let below = c.items-test.true in omega (arith, below, count)) c.in_ok-push.ensures
      (rw c.items.invariant.same at (c.first_item-first.ensures.item s)) (rw c.items.invariant.same at (c.first_item-first.ensures.rest s)) (c.items.invariant.read s t refers count);
}

pub returns-clause-arguments : goal.returns-clause-arguments
returns-clause-arguments c s t refers count =
    read_all s _ _ _ _ _ (arguments_of t) c.items-test.false count (c.items.invariant.read s t refers count)
