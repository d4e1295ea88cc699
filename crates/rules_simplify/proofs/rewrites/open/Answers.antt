use Rattle.std.proofs.Common.{◌∙◌, refl}
use Rattle.std.proofs.lemmas.Bool.{OnTrue_at, OnFalse_at}
use Rattle.rules_simplify.specs.Tables.{rows_of}
use Rattle.rules_simplify.proofs.RewriteLemmas.{open_not_yet, open_never}
use Rattle.rules_simplify.proofs.rewrites.open.Goals as goal

pub loop-row-init : goal.loop-row-init
loop-row-init c = record { same = refl; are = c.rows-row-items.ensures; left = λ t refers h. h }

pub open_by-requires : goal.open_by-requires
open_by-requires c = rw c.loop-row.invariant.same c.requires

pub returns-then-branch-clause-open : goal.returns-then-branch-clause-open
returns-then-branch-clause-open c = rw c.loop-row.invariant.same at (OnTrue_at c.if-branch.true c.in_ok-open_by.ensures.open)

pub loop-row-preserved : goal.loop-row-preserved
loop-row-preserved c = record {
  same = c.open_by.ensures.same ∙ c.loop-row.invariant.same;
  are = c.loop-row.invariant.are;
  left = λ t refers h.
      (let test = rw c.loop-row.invariant.same at (OnFalse_at c.if-branch.false c.in_ok-open_by.ensures.other) in
      open_not_yet (rows_of c.args.table) c.rows-row-items.result.now c.loop-row.invariant.are c.loop-row.row-index t _ c.loop-row-test.true
      (λ of is. test (rows_of c.args.table) of t is refers) (c.loop-row.invariant.left t refers h));
}

pub returns-clause-other : goal.returns-clause-other
returns-clause-other c t refers =
    open_never (rows_of c.args.table) c.rows-row-items.result.now c.loop-row.invariant.are c.loop-row.row-index t c.loop-row-test.false (c.loop-row.invariant.left t refers)
