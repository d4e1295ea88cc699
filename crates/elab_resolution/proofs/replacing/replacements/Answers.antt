use Rattle.std.proofs.Common.{sym, subst}
use Rattle.elab_resolution.specs.Adding.{AreAddedFor, AreNear, roots_at}
use Rattle.elab_resolution.proofs.DirectLemmas.{found_of}
use Rattle.elab_resolution.proofs.replacing.replacements.Goals as goal

pub returns-in-Some-clause-added : goal.returns-in-Some-clause-added
returns-in-Some-clause-added c =
    subst (λ v. AreAddedFor c.args.symbols.now v c.args.proof.now c.args.i c.in-Some.steps.items) (sym c.direct_steps.ensures.same)
    (found_of c.in_ok-steps.field-0 c.in-Some.steps
    (λ steps. AreAddedFor c.args.symbols.now c.args.terms.now c.args.proof.now c.args.i steps.items) c.in-Some.is c.in_ok-steps.ensures.added)

pub returns-in-Some-clause-spelled : goal.returns-in-Some-clause-spelled
returns-in-Some-clause-spelled c of stand =
    subst (λ v. AreNear c.args.symbols.now v (roots_at of c.args.i) c.in-Some.steps.items) (sym c.direct_steps.ensures.same)
    (found_of c.in_ok-steps.field-0 c.in-Some.steps (λ steps. AreNear c.args.symbols.now c.args.terms.now (roots_at of c.args.i) steps.items)
    c.in-Some.is (c.in_ok-steps.ensures.spelled of stand))
