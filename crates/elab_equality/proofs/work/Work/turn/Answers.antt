use Rattle.std.proofs.Common.{arith, Ok}
use Rattle.term_model.specs.Flips.{equality}
use Rattle.elab_equality.proofs.MatchLemmas.{crossed_exchanged, crossed_turned, placed_done, refused_done}
use Rattle.elab_equality.proofs.WorkLemmas.{done_err, done_ok, done_then, work_later}
use Rattle.flip_steps.proofs.OrderLemmas.{refers_later}
use Rattle.elab_equality.proofs.work.Work.turn.Goals as goal

pub equality_of-requires-clause-left : goal.equality_of-requires-clause-left
equality_of-requires-clause-left c = let h = c.requires.crossed.inner in record { means = h.left; refers = h.left_refers }

pub equality_of-requires-clause-right : goal.equality_of-requires-clause-right
equality_of-requires-clause-right c = let h = c.requires.crossed.outer in record { means = h.left; refers = h.left_refers }

pub returns-in_err-turned-clause-done : goal.returns-in_err-turned-clause-done
returns-in_err-turned-clause-done c =
    let h = c.requires.crossed in
    refused_done c.args.at.now c.args.terms.now c.equality_of.new.terms c.args.self.now c.args.self.now 1 (equality h.inner.left h.outer.left) c.from_residual.result
    c.in_err-turned.ensures.keeps h.turned (c.in_err-turned.ensures.placed h.inner.left h.outer.left h.inner.left_refers h.outer.left_refers)
    (c.in_err-turned.ensures.full h.inner.left h.outer.left h.inner.left_refers h.outer.left_refers) c.from_residual.ensures.1

pub exchange-requires-clause-work : goal.exchange-requires-clause-work
exchange-requires-clause-work c =
    work_later c.args.at.now c.args.terms.now c.equality_of.new.terms c.in_ok-turned.ensures.keeps c.args.self.now c.requires.work

pub exchange-requires-clause-given : goal.exchange-requires-clause-given
exchange-requires-clause-given c =
    let h = c.requires.crossed in
    crossed_turned c.args.at.now c.args.terms.now c.equality_of.new.terms c.args.x.now h c.in_ok-turned.ensures.keeps c.in_ok-turned.turned
    (c.in_ok-turned.ensures.term h.inner.left h.outer.left h.inner.left_refers h.outer.left_refers)

pub exchange-requires-clause-made : goal.exchange-requires-clause-made
exchange-requires-clause-made c =
    let h = c.requires.crossed in
    crossed_exchanged c.args.at.now c.args.terms.now c.equality_of.new.terms c.args.x.now h c.in_ok-turned.ensures.keeps c.in_ok-turned.turned
    (c.in_ok-turned.ensures.term h.inner.left h.outer.left h.inner.left_refers h.outer.left_refers)

pub returns-in_err-link-clause-done : goal.returns-in_err-link-clause-done
returns-in_err-link-clause-done c =
    let h = c.requires.crossed in
    done_then 1 (omega arith)
    (placed_done c.args.at.now c.args.terms.now c.equality_of.new.terms c.args.self.now (equality h.inner.left h.outer.left) c.requires.work
    c.in_ok-turned.ensures.keeps h.turned (c.in_ok-turned.ensures.placed h.inner.left h.outer.left h.inner.left_refers h.outer.left_refers))
    (done_err c.exchange.new.self 1 c.from_residual-in_err-link.result c.in_err-link.ensures.done c.from_residual-in_err-link.ensures.1)

pub returns-clause-turned : goal.returns-clause-turned
returns-clause-turned c t u left right =
    refers_later c.args.at.now.symbols.now c.equality_of.new.terms c.exchange.new.terms c.in_ok-turned.turned (equality u t) c.in_ok-link.ensures.done.keeps
    (c.in_ok-turned.ensures.term u t right left)

pub returns-clause-done : goal.returns-clause-done
returns-clause-done c =
    let h = c.requires.crossed in
    done_ok 1 (c.in_ok-turned.turned, c.in_ok-link.link) (omega arith) (done_then {r = Ok c.in_ok-link.link} 1 (omega arith)
    (placed_done c.args.at.now c.args.terms.now c.equality_of.new.terms c.args.self.now (equality h.inner.left h.outer.left) c.requires.work
    c.in_ok-turned.ensures.keeps h.turned (c.in_ok-turned.ensures.placed h.inner.left h.outer.left h.inner.left_refers h.outer.left_refers))
    c.in_ok-link.ensures.done)
