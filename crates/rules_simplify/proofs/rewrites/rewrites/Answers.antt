use Rattle.std.proofs.lemmas.Bool.{OnTrue_at, OnFalse_at}
use Rattle.std.proofs.lemmas.Result.{IfOk-weaker}
use Rattle.rules_simplify.proofs.RewriteLemmas.{row_rewrites, row_fits_not}
use Rattle.rules_simplify.proofs.rewrites.rewrites.Goals as goal

pub returns-then-not-branch-clause-rewrites : goal.returns-then-not-branch-clause-rewrites
returns-then-not-branch-clause-rewrites c table of t u is here refers =
    row_fits_not c.args.symbols.now c.args.terms.now table of c.args.row c.args.at.now t is here u (OnFalse_at c.if-not-branch.true c.in_ok-fits_row.ensures.other table of t is here)

pub returns-clause-rewrites : goal.returns-clause-rewrites
returns-clause-rewrites c =
    IfOk-weaker c.makes.result _ _ (λ b test table of t u is here refers.
    row_rewrites c.args.symbols.now c.args.terms.now table of c.args.row c.args.at.now t is here b u c.fits_row.new.letters
    (OnTrue_at c.if-not-branch.false c.in_ok-fits_row.ensures.fit table of t is here) (λ f e. test table of t u f is here refers e))
    (rw c.fits_row.ensures.same at c.makes.ensures.makes)
