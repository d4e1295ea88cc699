use Rattle.std.proofs.Common.{arith}
use Rattle.elab_equality.proofs.AssumeEndLemmas.{equated_none, equated_some, unit_alone, unit_later}
use Rattle.elab_equality.proofs.AssumeLemmas.{assumed_flips, literals_later, made_literals}
use Rattle.elab_equality.proofs.WorkLemmas.{done_err, done_ok, done_then}
use Rattle.elab_equality.proofs.work.Work.lead.Goals as goal

pub join-requires-clause-pair : goal.join-requires-clause-pair
join-requires-clause-pair c =
    assumed_flips c.args.at.now c.args.terms.now c.requires.job c.requires.assumed.first_is.rule c.args.first c.args.assumed c.requires.assumed

pub returns-in_err-joined-clause-done : goal.returns-in_err-joined-clause-done
returns-in_err-joined-clause-done c = done_err c.join.new.self 4 c.from_residual.result c.in_err-joined.ensures.done c.from_residual.ensures.1

pub returns-in_default-clause-says : goal.returns-in_default-clause-says
returns-in_default-clause-says c =
    let p = c.args.at.now in
    let v = c.join.new.terms in
    let done = c.in_ok-joined.ensures.done in
    unit_alone p v c.join.new.self.block c.args.given c.args.first c.args.assumed
    (equated_none p v c.join.new.self.block c.in_ok-joined.joined c.args.first c.args.assumed c.in_default.is c.in_ok-joined.ensures.linked)
    (unit_later p c.args.terms.now v done.keeps c.args.self.now.block c.join.new.self.block done.moved.more c.args.given c.args.first c.requires.given)

pub returns-in_default-clause-done : goal.returns-in_default-clause-done
returns-in_default-clause-done c = done_ok 4 c.args.given (omega arith) c.in_ok-joined.ensures.done

pub implied-requires-clause-work : goal.implied-requires-clause-work
implied-requires-clause-work c = c.in_ok-joined.ensures.done.moved.work

pub implied-requires-clause-given : goal.implied-requires-clause-given
implied-requires-clause-given c =
    equated_some c.args.at.now c.join.new.terms c.join.new.self.block c.in_ok-joined.joined c.in-Some.link c.args.first c.args.assumed c.in-Some.is
    c.in_ok-joined.ensures.linked

pub implied-requires-clause-made : goal.implied-requires-clause-made
implied-requires-clause-made c =
    literals_later c.args.at.now c.args.terms.now c.join.new.terms c.in_ok-joined.ensures.done.keeps c.args.first c.args.assumed
    (made_literals c.args.at.now c.args.terms.now c.requires.job c.requires.assumed.first_is.rule c.args.first c.args.assumed c.requires.assumed)

pub returns-in_err-implied-clause-done : goal.returns-in_err-implied-clause-done
returns-in_err-implied-clause-done c =
    done_then 4 (omega arith) c.in_ok-joined.ensures.done
    (done_err c.implied.new.self 1 c.from_residual-in_err-implied.result c.in_err-implied.ensures.done c.from_residual-in_err-implied.ensures.1)

pub resolved-requires-clause-work : goal.resolved-requires-clause-work
resolved-requires-clause-work c = c.in_ok-implied.ensures.done.moved.work

pub resolved-requires-clause-right : goal.resolved-requires-clause-right
resolved-requires-clause-right c =
    let both = done_then 3 (omega arith) c.in_ok-joined.ensures.done c.in_ok-implied.ensures.done in
    unit_later c.args.at.now c.args.terms.now c.implied.new.terms both.keeps c.args.self.now.block c.implied.new.self.block both.moved.more c.args.given c.args.first
    c.requires.given

pub resolved-requires-clause-made : goal.resolved-requires-clause-made
resolved-requires-clause-made c =
    let both = done_then 3 (omega arith) c.in_ok-joined.ensures.done c.in_ok-implied.ensures.done in
    literals_later c.args.at.now c.args.terms.now c.implied.new.terms both.keeps c.args.first c.args.assumed
    (made_literals c.args.at.now c.args.terms.now c.requires.job c.requires.assumed.first_is.rule c.args.first c.args.assumed c.requires.assumed)

pub returns-in_err-led-clause-done : goal.returns-in_err-led-clause-done
returns-in_err-led-clause-done c =
    done_then 4 (omega arith) c.in_ok-joined.ensures.done
    (done_then 2 (omega arith) c.in_ok-implied.ensures.done
    (done_err c.resolved.new.self 1 c.from_residual-in_err-led.result c.in_err-led.ensures.done c.from_residual-in_err-led.ensures.1))

pub returns-clause-done : goal.returns-clause-done
returns-clause-done c =
    done_then 4 (omega arith) c.in_ok-joined.ensures.done (done_then 2 (omega arith) c.in_ok-implied.ensures.done c.in_ok-led.ensures.done)
