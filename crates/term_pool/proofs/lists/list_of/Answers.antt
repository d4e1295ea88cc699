use Rattle.std.proofs.Common.{rules, ◌-◌, arith}
use Rattle.sym_table.proofs.Adds.{on_err}
use Rattle.term_pool.proofs.BuildingLemmas.{list_step, list_lacks, lacks_all, drop-at}
use Rattle.term_pool.proofs.lists.list_of.Goals as goal

pub returns-in_err-list-clause-full : goal.returns-in_err-list-clause-full
returns-in_err-list-clause-full c =
    on_err c.from_residual.result
    (lacks_all _ _ c.args.items.now (c.items.at - 1)
    (rw (drop-at c.args.items.now c.items.at c.index-items-at.result c.items-test.true c.items.invariant.0 c.index-items-at.is)
    (list_lacks _ _ _ _ _ _ c.items.invariant.2 c.in_err-list.ensures.refused)))

pub items-preserved : goal.items-preserved
items-preserved c = (
  omega arith,
  c.pair.ensures.of_pool,
  rw (drop-at c.args.items.now c.items.at c.index-items-at.result c.items-test.true c.items.invariant.0 c.index-items-at.is)
      (list_step _ _ _ _ _ _ _ c.items.invariant.2 (search rules) c.in_ok-list.ensures.made),
)
