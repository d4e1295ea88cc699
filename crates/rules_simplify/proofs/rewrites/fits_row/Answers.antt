use Rattle.std.proofs.lemmas.Bool.{OnTrue_at, OnFalse_at, OnTrue_from, OnFalse_from}
use Rattle.rules_simplify.proofs.RewriteLemmas.{some_stack, op_differs, row_letters, row_fits, row_denied, row_other}
use Rattle.rules_simplify.proofs.rewrites.fits_row.Goals as goal

pub returns-then-not-is_same_op-clause-other : goal.returns-then-not-is_same_op-clause-other
returns-then-not-is_same_op-clause-other c table of t is here =
    op_differs c.args.symbols.now c.args.terms.now table of c.args.row c.args.at.now t is here
    (λ same. absurd (let holds = c.is_same_op.ensures.1 same in let fails = c.if-not-is_same_op.true in cc))

pub fits_with-requires : goal.fits_with-requires
fits_with-requires c = some_stack c.args.symbols.now c.args.terms.now c.args.at.now _ (rw c.deref.ensures at c.in_ok-stack_up.ensures) c.requires.at

pub returns-then-not-branch-clause-other : goal.returns-then-not-branch-clause-other
returns-then-not-branch-clause-other c table of t is here =
    row_other c.args.symbols.now c.args.terms.now table of c.args.row c.args.at.now t is here _
    (rw c.deref.ensures at c.in_ok-stack_up.ensures) (OnFalse_at c.if-not-branch.true c.in_ok-fits_with.ensures.other)

pub passes-requires : goal.passes-requires
passes-requires c =
    let some = c.requires.row in
    let at = c.requires.at in
    rw c.fits_with.ensures.same
    (row_letters c.args.symbols.now c.args.terms.now some.rows some.row c.args.row c.args.at.now at.means some.is at.is _ _
    (rw c.deref.ensures at c.in_ok-stack_up.ensures) (OnTrue_at c.if-not-branch.false c.in_ok-fits_with.ensures.fits) (c.is_same_op.ensures.0 c.if-not-is_same_op.false))

pub returns-clause-fit : goal.returns-clause-fit
returns-clause-fit c =
    OnTrue_from c.passes.result _ (λ e table of t is here.
    let test = rw c.fits_with.ensures.same at c.passes.ensures.passes in
    row_fits c.args.symbols.now c.args.terms.now table of c.args.row c.args.at.now t is here _ _ (rw c.deref.ensures at c.in_ok-stack_up.ensures)
    (OnTrue_at c.if-not-branch.false c.in_ok-fits_with.ensures.fits) (c.is_same_op.ensures.0 c.if-not-is_same_op.false) (λ f agrees. (test f agrees).0 e))

pub returns-clause-other : goal.returns-clause-other
returns-clause-other c =
    OnFalse_from c.passes.result _ (λ e table of t is here.
    let test = rw c.fits_with.ensures.same at c.passes.ensures.passes in
    row_denied c.args.symbols.now c.args.terms.now table of c.args.row c.args.at.now t is here _ _ (rw c.deref.ensures at c.in_ok-stack_up.ensures)
    (OnTrue_at c.if-not-branch.false c.in_ok-fits_with.ensures.fits) (λ f agrees asked. absurd (let holds = (test f agrees).1 asked in cc)))
