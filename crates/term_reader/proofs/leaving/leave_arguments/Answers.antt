-- The last argument makes the application whole.
use Rattle.std.proofs.Common.{refl}
use Rattle.std.proofs.lemmas.Result.{err_from_is_err_and}
use Rattle.term_reader.proofs.LeavingArguments.{applied_here, arguments_fault, arguments_refused, arguments_settled}
use Rattle.term_reader.proofs.leaving.leave_arguments.Goals as goal

pub apply-requires-clause-head : goal.apply-requires-clause-head
apply-requires-clause-head c =
    let (items, g, h) = c.requires.read in
    rw c.in_ok-push.ensures.pushed (applied_here _ _ _ _ _ _ _ _ h)

pub cause_of-cause-requires-clause-head : goal.cause_of-cause-requires-clause-head
cause_of-cause-requires-clause-head c =
    let (items, g, h) = c.requires.read in
    let (m, ts, head, values) = applied_here _ _ _ _ _ _ _ _ h in
    (c.args.terms.now, m, ts, head, rw c.in_ok-push.ensures.pushed values)

pub returns-in_err-made-clause-leaves : goal.returns-in_err-made-clause-leaves
returns-in_err-made-clause-leaves c = λ items g h.
    let p = err_from_is_err_and c.from_residual-in_err-made.result c.from_residual-in_err-made.ensures.1 in
    rw (p.1, p.2) (arguments_fault _ _ _ _ _ _ _ _ h refl _ _ c.in_ok-push.ensures.pushed _ c.in_err-made.ensures.makes _)

pub returns-in_err-term-clause-leaves : goal.returns-in_err-term-clause-leaves
returns-in_err-term-clause-leaves c = λ items g h.
    let p = err_from_is_err_and c.from_residual-in_err-term.result c.from_residual-in_err-term.ensures.1 in
    rw (p.1, p.2)
    (arguments_refused _ _ _ _ _ _ _ _ h refl _ _ c.in_ok-push.ensures.pushed _ c.in_ok-made.ensures.makes
    _ (c.cause_of-cause.ensures c.args.terms.now) _ c.in_err-term.ensures _)

pub returns-clause-leaves : goal.returns-clause-leaves
returns-clause-leaves c = λ items g h.
    arguments_settled _ _ _ _ _ _ _ _ h refl _ c.apply.ensures.keeps _ c.in_ok-push.ensures.pushed
    _ c.in_ok-made.ensures.makes _ (c.cause_of-cause.ensures c.args.terms.now) _ c.in_ok-term.ensures c.truncate.new.self c.truncate.ensures
