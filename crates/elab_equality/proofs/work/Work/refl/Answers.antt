use Rattle.std.proofs.Common.{◌≡◌, arith}
use Rattle.elab_equality.proofs.WorkLemmas.{done_err, done_none, done_ok}
use Rattle.elab_equality.proofs.work.Work.refl.Goals as goal

pub returns-then-number-clause-linked : goal.returns-then-number-clause-linked
returns-then-number-clause-linked c = let e : c.args.a ≡ c.args.b = omega arith in e

pub returns-then-number-clause-done : goal.returns-then-number-clause-done
returns-then-number-clause-done c = done_none c.args.at.now c.args.terms.now c.args.self.now 1 _ c.requires.work

pub returns-in_err-link-clause-done : goal.returns-in_err-link-clause-done
returns-in_err-link-clause-done c = done_err c.in_context.new.self 1 c.from_residual.result c.in_err-link.ensures.done c.from_residual.ensures.1

pub returns-clause-linked : goal.returns-clause-linked
returns-clause-linked c = (λ (e : c.args.a ≡ c.args.b). absurd (omega (arith, e)), c.in_ok-link.ensures.linked)

pub returns-clause-done : goal.returns-clause-done
returns-clause-done c = done_ok 1 _ (omega arith) c.in_ok-link.ensures.done
