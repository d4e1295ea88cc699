use Rattle.std.proofs.Common.{refl, ◌∙◌, arith}
use Rattle.sort_check.proofs.Ways.{way_start, way_short, way_down, way_end}
use Rattle.sort_check.proofs.descent.sort_of.Goals as goal

pub down-init : goal.down-init
down-init c = (refl, way_start c.args.symbols.now c.args.terms.now c.args.r c.requires)

pub returns-in-Found-clause-sort : goal.returns-in-Found-clause-sort
returns-in-Found-clause-sort c =
    let w = c.down.invariant.1 in
    let found = rw c.down.invariant.0 at c.in-Found.ensures.step in
    way_end c.args.symbols.now c.args.terms.now c.leaves_differ.ensures.table c.equal_exactly_where_terms_are.ensures c.args.r c.down.at c.down.passed c.in-Found.sort w (found w.here w.sort w.here_refers w.here_of)

pub overflow_add-passed : goal.overflow_add-passed
overflow_add-passed c =
    let low = way_short c.args.symbols.now c.args.terms.now c.args.r c.down.at c.down.passed c.down.invariant.1 in omega arith

pub down-preserved : goal.down-preserved
down-preserved c =
    let w = c.down.invariant.1 in
    let found = rw c.down.invariant.0 at c.in-Below.ensures.step in (
      c.look_down.ensures.same ∙ c.down.invariant.0,
      way_down c.args.symbols.now c.args.terms.now c.leaves_differ.ensures.table c.equal_exactly_where_terms_are.ensures c.args.r c.down.at c.in-Below.lower c.down.passed c.in-Below.ensures.number w (found w.here w.sort w.here_refers w.here_of),
    )
