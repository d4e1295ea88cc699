use Rattle.std.proofs.Common.{◌∙◌, refl}
use Rattle.std.proofs.lemmas.Bool.{OnTrue_at, OnFalse_at}
use Rattle.rules_simplify.specs.Tables.{rows_of}
use Rattle.rules_simplify.proofs.RewriteLemmas.{some_row_at, first_found, first_not_yet, first_never}
use Rattle.rules_simplify.proofs.rewrites.first_fit.Goals as goal

pub loop-row-init : goal.loop-row-init
loop-row-init c = record { same = refl; are = c.rows-row-items.ensures; left = λ t at u. (λ h. h, λ h. h) }

pub fits_row-requires-clause-row : goal.fits_row-requires-clause-row
fits_row-requires-clause-row c = some_row_at (rows_of c.args.table) c.rows-row-items.result.now c.loop-row.invariant.are c.loop-row.row-index _ c.loop-row-test.true

pub returns-then-branch-clause-first : goal.returns-then-branch-clause-first
returns-then-branch-clause-first c t at =
    let test = rw c.loop-row.invariant.same at (OnTrue_at c.if-branch.true c.in_ok-fits_row.ensures.fit) in
    first_found (rows_of c.args.table) c.rows-row-items.result.now c.loop-row.invariant.are c.loop-row.row-index t _ c.args.symbols.now c.args.terms.now _ c.loop-row-test.true refl
    (c.loop-row.invariant.left t at) (λ of is. test (rows_of c.args.table) of t is at)

pub loop-row-preserved : goal.loop-row-preserved
loop-row-preserved c = record {
  same = c.fits_row.ensures.same ∙ c.loop-row.invariant.same;
  are = c.loop-row.invariant.are;
  left = λ t at.
      (let test = rw c.loop-row.invariant.same at (OnFalse_at c.if-branch.false c.in_ok-fits_row.ensures.other) in
      first_not_yet (rows_of c.args.table) c.rows-row-items.result.now c.loop-row.invariant.are c.loop-row.row-index t _ c.loop-row-test.true
      (λ of is. test (rows_of c.args.table) of t is at) (c.loop-row.invariant.left t at));
}

pub returns-clause-none : goal.returns-clause-none
returns-clause-none c t u at =
    first_never (rows_of c.args.table) c.rows-row-items.result.now c.loop-row.invariant.are c.loop-row.row-index t c.loop-row-test.false (c.loop-row.invariant.left t at) u
