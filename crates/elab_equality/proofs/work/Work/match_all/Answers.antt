use Rattle.std.proofs.Common.{◌+◌, ◌*◌, length, arith}
use Rattle.elab_equality.proofs.MatchLemmas.{matched_given, matched_made, matched_sides}
use Rattle.elab_equality.proofs.WorkLemmas.{done_err, done_then}
use Rattle.elab_equality.proofs.work.Work.match_all.Goals as goal

pub returns-in_err-links-clause-done : goal.returns-in_err-links-clause-done
returns-in_err-links-clause-done c =
    done_err c.link_all.new.self (2 * length c.args.x.now.lefts.now + 1) c.from_residual.result c.in_err-links.ensures.done c.from_residual.ensures.1

pub cong-requires-clause-work : goal.cong-requires-clause-work
cong-requires-clause-work c = c.in_ok-links.ensures.done.moved.work

pub cong-requires-clause-given : goal.cong-requires-clause-given
cong-requires-clause-given c =
    matched_given c.args.at.now c.args.terms.now c.link_all.new.terms c.args.x.now c.requires.matched c.in_ok-links.ensures.done.keeps c.link_all.new.self.block
    c.in_ok-links.links.items c.deref.result.now c.leaves_differ.ensures.table c.one_to_one.ensures c.deref.ensures.value c.in_ok-links.ensures.linked

pub cong-requires-clause-sides : goal.cong-requires-clause-sides
cong-requires-clause-sides c =
    matched_sides c.args.at.now c.args.terms.now c.link_all.new.terms c.args.x.now c.requires.matched c.in_ok-links.ensures.done.keeps

pub cong-requires-clause-made : goal.cong-requires-clause-made
cong-requires-clause-made c =
    matched_made c.args.at.now c.args.terms.now c.link_all.new.terms c.args.x.now c.requires.matched c.in_ok-links.ensures.done.keeps

pub returns-in_err-linked-clause-done : goal.returns-in_err-linked-clause-done
returns-in_err-linked-clause-done c =
    done_then (2 * length c.args.x.now.lefts.now + 1) (omega arith) c.in_ok-links.ensures.done
    (done_err c.cong.new.self 1 c.from_residual-in_err-linked.result c.in_err-linked.ensures.done c.from_residual-in_err-linked.ensures.1)

pub returns-clause-done : goal.returns-clause-done
returns-clause-done c =
    done_then (2 * length c.args.x.now.lefts.now + 1) (omega arith) c.in_ok-links.ensures.done c.in_ok-linked.ensures.done
