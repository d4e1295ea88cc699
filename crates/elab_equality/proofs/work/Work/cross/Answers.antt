use Rattle.std.proofs.Common.{arith, refl}
use Rattle.flip_steps.proofs.MemoryLemmas.{equates_later}
use Rattle.flip_steps.proofs.OrderLemmas.{keeps_then}
use Rattle.elab_equality.proofs.LinkLemmas.{given_later}
use Rattle.elab_equality.proofs.MatchLemmas.{crossed_chained, crossed_made, crossed_matched}
use Rattle.elab_equality.proofs.WorkLemmas.{done_err, done_then, links_stay}
use Rattle.elab_equality.proofs.work.Work.cross.Goals as goal

pub returns-in_err-found-clause-done : goal.returns-in_err-found-clause-done
returns-in_err-found-clause-done c = done_err c.turn.new.self 7 c.from_residual.result c.in_err-found.ensures.done c.from_residual.ensures.1

pub match_all-requires-clause-work : goal.match_all-requires-clause-work
match_all-requires-clause-work c = c.in_ok-found.ensures.done.moved.work

pub match_all-requires-clause-given : goal.match_all-requires-clause-given
match_all-requires-clause-given c =
    given_later c.args.at.now c.args.terms.now c.turn.new.terms c.in_ok-found.ensures.done.keeps c.args.given.now c.requires.given

pub match_all-requires-clause-matched : goal.match_all-requires-clause-matched
match_all-requires-clause-matched c =
    let h = c.requires.crossed in
    crossed_matched c.args.at.now c.args.terms.now c.turn.new.terms c.args.x.now h c.in_ok-found.ensures.done.keeps _
    (c.in_ok-found.ensures.turned h.outer.left h.inner.left h.outer.left_refers h.inner.left_refers) refl refl refl

pub returns-in_err-second-clause-done : goal.returns-in_err-second-clause-done
returns-in_err-second-clause-done c =
    done_then 7 (omega arith) c.in_ok-found.ensures.done
    (done_err c.match_all.new.self 6 c.from_residual-in_err-second.result c.in_err-second.ensures.done c.from_residual-in_err-second.ensures.1)

pub trans-requires-clause-work : goal.trans-requires-clause-work
trans-requires-clause-work c = c.in_ok-second.ensures.done.moved.work

pub trans-requires-clause-given : goal.trans-requires-clause-given
trans-requires-clause-given c =
    let p = c.args.at.now in
    let first = c.in_ok-found.ensures.done in
    let second = c.in_ok-second.ensures.done in
    crossed_chained p c.args.terms.now c.match_all.new.terms c.args.x.now c.requires.crossed
    (keeps_then c.args.terms.now c.turn.new.terms c.match_all.new.terms first.keeps second.keeps) c.match_all.new.self.block c.in_ok-found.found.1 c.in_ok-second.second _
    c.in_ok-found.found.0 c.leaves_differ.ensures.table c.one_to_one.ensures refl
    (equates_later links_stay p c.turn.new.terms c.match_all.new.terms c.turn.new.self.block c.match_all.new.self.block second.keeps second.moved.more
    c.in_ok-found.found.1 c.args.x.now.left c.in_ok-found.found.0 c.in_ok-found.ensures.linked) c.in_ok-second.ensures.linked

pub trans-requires-clause-made : goal.trans-requires-clause-made
trans-requires-clause-made c =
    crossed_made c.args.at.now c.args.terms.now c.match_all.new.terms c.args.x.now c.requires.crossed
    (keeps_then c.args.terms.now c.turn.new.terms c.match_all.new.terms c.in_ok-found.ensures.done.keeps c.in_ok-second.ensures.done.keeps)

pub returns-in_err-linked-clause-done : goal.returns-in_err-linked-clause-done
returns-in_err-linked-clause-done c =
    done_then 7 (omega arith) c.in_ok-found.ensures.done (done_then 6 (omega arith) c.in_ok-second.ensures.done
    (done_err c.trans.new.self 1 c.from_residual-in_err-linked.result c.in_err-linked.ensures.done c.from_residual-in_err-linked.ensures.1))

pub returns-clause-done : goal.returns-clause-done
returns-clause-done c =
    done_then 7 (omega arith) c.in_ok-found.ensures.done (done_then 6 (omega arith) c.in_ok-second.ensures.done c.in_ok-linked.ensures.done)
