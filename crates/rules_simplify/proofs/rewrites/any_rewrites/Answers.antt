use Rattle.std.proofs.Common.{◌∙◌, refl}
use Rattle.rules_simplify.specs.Tables.{rows_of}
use Rattle.rules_simplify.proofs.RewriteLemmas.{some_row_at, any_found, any_not_yet, any_never}
use Rattle.rules_simplify.proofs.rewrites.any_rewrites.Goals as goal

pub loop-row-init : goal.loop-row-init
loop-row-init c = record { same = refl; are = c.rows-row-items.ensures; left = λ t u at refers h. h }

pub rewrites-requires-clause-row : goal.rewrites-requires-clause-row
rewrites-requires-clause-row c = some_row_at (rows_of c.args.table) c.rows-row-items.result.now c.loop-row.invariant.are c.loop-row.row-index _ c.loop-row-test.true

pub returns-then-branch-clause-any : goal.returns-then-branch-clause-any
returns-then-branch-clause-any c t u at refers =
    let test = rw c.loop-row.invariant.same at c.in_ok-rewrites.ensures.rewrites in (
      λ e. any_found (rows_of c.args.table) c.rows-row-items.result.now c.loop-row.invariant.are c.loop-row.row-index t u _ c.in_ok-rewrites.field-0 c.loop-row-test.true c.if-branch.true
          (λ of is. test (rows_of c.args.table) of t u is at refers),
      λ h. refl,
    )

pub loop-row-preserved : goal.loop-row-preserved
loop-row-preserved c = record {
  same = c.rewrites.ensures.same ∙ c.loop-row.invariant.same;
  are = c.loop-row.invariant.are;
  left = λ t u at refers h.
      (let test = rw c.loop-row.invariant.same at c.in_ok-rewrites.ensures.rewrites in
      any_not_yet (rows_of c.args.table) c.rows-row-items.result.now c.loop-row.invariant.are c.loop-row.row-index t u _ c.in_ok-rewrites.field-0 c.loop-row-test.true c.if-branch.false
      (λ of is. test (rows_of c.args.table) of t u is at refers) (c.loop-row.invariant.left t u at refers h));
}

pub returns-clause-any : goal.returns-clause-any
returns-clause-any c t u at refers =
    any_never (rows_of c.args.table) c.rows-row-items.result.now c.loop-row.invariant.are c.loop-row.row-index t u c.loop-row-test.false (c.loop-row.invariant.left t u at refers)
