use Rattle.std.proofs.lemmas.Result.{IfOk-weaker}
use Rattle.rules_simplify.proofs.RewriteLemmas.{some_stack_under, row_makes}
use Rattle.rules_simplify.proofs.rewrites.makes.Goals as goal

pub fits-requires : goal.fits-requires
fits-requires c =
    some_stack_under c.args.symbols.now c.args.terms.now c.args.at.now _ _ c.args.right (rw c.deref.ensures at c.in_ok-stack_up.ensures) c.in_ok-push.ensures c.requires.right c.requires.at

pub returns-clause-makes : goal.returns-clause-makes
returns-clause-makes c =
    IfOk-weaker c.fits.result _ _ (λ b test table of t u f is here refers e.
    row_makes c.args.symbols.now c.args.terms.now table of c.args.row c.args.at.now t is here b _ _ c.args.right u f (rw c.deref.ensures at c.in_ok-stack_up.ensures) c.in_ok-push.ensures refers test e)
    c.fits.ensures.fits
