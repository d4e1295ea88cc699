use Rattle.std.proofs.Common.{rules, ◌-◌, ◌≤◌, length, arith}
use Rattle.sym_table.proofs.Adds.{on_err}
use Rattle.term_pool.proofs.BuildingLemmas.{bindings_step, bindings_lack, bindings_lack_all, drop-at, drop-at_number}
use Rattle.term_pool.proofs.build.bindings.Goals as goal

pub returns-in_err-list-clause-full : goal.returns-in_err-list-clause-full
returns-in_err-list-clause-full c =
    let within : c.bindings.at ≤ length c.args.values.now = let h = c.bindings.invariant.0 in omega (arith, c.requires.one_each) in
    on_err c.from_residual.result
    (bindings_lack_all _ _ c.args.vars.now c.args.values.now (c.bindings.at - 1)
    (rw (
      drop-at_number c.args.vars.now c.bindings.at c.bindings-test.true c.bindings.invariant.0,
      drop-at c.args.values.now c.bindings.at c.index-values-at.result c.bindings-test.true within c.index-values-at.is,
    )
    (bindings_lack _ _ _ _ _ _ _ _ c.bindings.invariant.2 c.in_err-list.ensures.full)))

pub bindings-preserved : goal.bindings-preserved
bindings-preserved c =
    let within : c.bindings.at ≤ length c.args.values.now = let h = c.bindings.invariant.0 in omega (arith, c.requires.one_each) in (
      omega arith,
      c.binding.ensures.of_pool,
      rw (
        drop-at_number c.args.vars.now c.bindings.at c.bindings-test.true c.bindings.invariant.0,
        drop-at c.args.values.now c.bindings.at c.index-values-at.result c.bindings-test.true within c.index-values-at.is,
      )
          (bindings_step _ _ _ _ _ _ _ _ _ c.bindings.invariant.2 (search rules) c.in_ok-list.ensures.built),
    )
