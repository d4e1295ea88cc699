use Rattle.std.proofs.Common.{ap, sym, subst}
use Rattle.std.proofs.lemmas.Result.{IfOk-weaker}
use Rattle.term_parts.specs.Judging.{StandForTruths}
use Rattle.rule_filler.proofs.Replies.{truths_of, answered, accepted_answer}
use Rattle.rule_filler.proofs.replying.reply.Goals as goal

pub returns-in_default-clause-reply : goal.returns-in_default-clause-reply
returns-in_default-clause-reply c = λ bytes reply. reply.not_left_out (rw c.in_default.is at c.in_ok-found.ensures.left_out)

pub reply_in-requires-clause-truths : goal.reply_in-requires-clause-truths
reply_in-requires-clause-truths c =
    let is = rw c.in-Some.is at c.in_ok-found.ensures.read in
    rw (c.deref.ensures.value, ap (λ p. p.assertions) c.problem.view_is)
    (truths_of is.script c.in-Some.read.symbols _ c.in-Some.read.problem.assertions
    (c.scripts_are_well_sorted.ensures c.args.question.now _ is.script is.stands) is.problem.assertions)

pub returns-clause-reply : goal.returns-clause-reply
returns-clause-reply c =
    let is = rw c.in-Some.is at c.in_ok-found.ensures.read in
    IfOk-weaker c.reply_in.result _ _
    (λ found given.
    answered c.texts_have_one_reading.ensures.script c.args.question.now is.script is.stands (rw c.in-Some.is at c.in_ok-found.ensures.only) _
    ((rw (c.deref.ensures.value, ap (λ p. p.assertions) c.problem.view_is) at given) is.script (sym is.problem.script.sorts) is.problem.assertions))
    c.reply_in.ensures

pub returns-clause-accepted : goal.returns-clause-accepted
returns-clause-accepted c =
    IfOk-weaker c.reply_in.result _ _
    (λ found answer. accepted_answer c.args.question.now (c.replies_are_accepted.ensures c.args.question.now) found answer)
    (returns-clause-reply c)
