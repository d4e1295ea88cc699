-- A reply to what is read of a question.
use Rattle.std.proofs.Common.{false, ap}
use Rattle.std.proofs.lemmas.Result.{IfOk-weaker}
use Rattle.question_reading.specs.Questions.{terms_in}
use Rattle.lia_answers.specs.Filling.{left_out}
use Rattle.lia_answers.proofs.Replies.{sorted_assertions, same_view, read_into, accepted_answer}
use Rattle.lia_answers.proofs.replying.reply.Goals as goal

pub returns-in_default-clause-reply : goal.returns-in_default-clause-reply
returns-in_default-clause-reply c = left_out (rw c.in_default.is at c.in_ok-found.ensures.left_out)

pub reply_to-requires : goal.reply_to-requires
reply_to-requires c =
    let q = c.in-Some.read in
    let is = rw c.in-Some.is at c.in_ok-found.ensures.read in
    let view = same_view c.new-terms.result q.pool q.pass.view c.new-terms.ensures.pool c.new-terms.ensures.pass in
    rw (view, c.deref.ensures.value, ap (λ p. p.assertions) c.problem.view_is)
    (sorted_assertions is.script q.symbols (terms_in q) q.problem.assertions (c.scripts_are_well_sorted.ensures c.args.question.now false is.script is.stands)
    is.problem.assertions)

pub returns-clause-reply : goal.returns-clause-reply
returns-clause-reply c =
    let q = c.in-Some.read in
    let is = rw c.in-Some.is at c.in_ok-found.ensures.read in
    let view = same_view c.new-terms.result q.pool q.pass.view c.new-terms.ensures.pool c.new-terms.ensures.pass in
    IfOk-weaker c.reply_to.result _ _
    (λ found answers. (rw (view, c.deref.ensures.value, ap (λ p. p.assertions) c.problem.view_is) at answers) c.args.question.now is.script
    (read_into c.args.question.now q is (rw c.in-Some.is at c.in_ok-found.ensures.only)))
    c.reply_to.ensures

pub returns-clause-accepted : goal.returns-clause-accepted
returns-clause-accepted c =
    IfOk-weaker c.reply_to.result _ _
    (λ found answer. accepted_answer c.args.question.now (c.replies_are_accepted.ensures c.args.question.now) found answer)
    (returns-clause-reply c)
