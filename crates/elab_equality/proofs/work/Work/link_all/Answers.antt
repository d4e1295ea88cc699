use Rattle.std.proofs.Common.{◌*◌, ◌≤◌, arith, length}
use Rattle.elab_equality.proofs.LinkLemmas.{given_later}
use Rattle.elab_equality.proofs.LoopLemmas.{linking_end, linking_more, linking_none, pair_at, right_below}
use Rattle.elab_equality.proofs.WorkLemmas.{done_err, done_memory, done_ok, done_then}
use Rattle.elab_equality.proofs.work.Work.link_all.Goals as goal

pub places-init : goal.places-init
places-init c =
    rw c.new-links.ensures.items (linking_none c.args.at.now c.args.terms.now c.args.self.now c.args.lefts.now c.args.rights.now c.requires.work)

pub bounds-rights-place : goal.bounds-rights-place
bounds-rights-place c = right_below c.args.at.now c.args.terms.now c.args.lefts.now c.args.rights.now c.requires.pairs c.places.place c.places-test.true

pub link-requires-clause-work : goal.link-requires-clause-work
link-requires-clause-work c = c.places.invariant.done.moved.work

pub link-requires-clause-given : goal.link-requires-clause-given
link-requires-clause-given c =
    given_later c.args.at.now c.args.terms.now c.places.terms c.places.invariant.done.keeps c.args.given.now c.requires.given

pub link-requires-clause-pair : goal.link-requires-clause-pair
link-requires-clause-pair c =
    pair_at c.args.at.now c.args.terms.now c.args.lefts.now c.args.rights.now c.requires.pairs c.places.place c.places-test.true c.places.terms c.args.self.now
    c.places.self c.places.links.items c.index-lefts-place.result c.index-rights-place.result c.places.invariant c.index-lefts-place.is c.index-rights-place.is

pub returns-in_err-link-clause-done : goal.returns-in_err-link-clause-done
returns-in_err-link-clause-done c =
    let below = c.places-test.true in
    done_then (2 * length c.args.lefts.now) (omega (arith, below)) c.places.invariant.done
    (done_err c.link.new.self 2 c.from_residual.result c.in_err-link.ensures.done c.from_residual.ensures.1)

pub returns-in_err-add_link-clause-done : goal.returns-in_err-add_link-clause-done
returns-in_err-add_link-clause-done c =
    let below = c.places-test.true in
    done_then (2 * length c.args.lefts.now) (omega (arith, below)) c.places.invariant.done
    (done_then 2 (omega arith) c.in_ok-link.ensures.done
    (done_memory c.args.at.now c.link.new.terms c.link.new.self c.link.new.self 0 c.from_residual-in_err-add_link.result c.from_residual-in_err-add_link.ensures.1))

pub places-preserved : goal.places-preserved
places-preserved c =
    rw c.in_ok-add_link.ensures
    (linking_more c.args.at.now c.args.terms.now c.args.lefts.now c.args.rights.now c.requires.pairs c.places.place c.places-test.true c.places.terms c.link.new.terms
    c.args.self.now c.places.self c.link.new.self c.places.links.items c.index-lefts-place.result c.index-rights-place.result c.in_ok-link.link c.places.invariant
    c.index-lefts-place.is c.index-rights-place.is c.in_ok-link.ensures.done c.in_ok-link.ensures.linked)

pub returns-clause-linked : goal.returns-clause-linked
returns-clause-linked c =
    linking_end c.args.at.now c.args.terms.now c.places.terms c.args.self.now c.places.self c.args.lefts.now c.args.rights.now c.places.place c.places.links.items
    c.requires.pairs c.places-test.false c.places.invariant

pub returns-clause-done : goal.returns-clause-done
returns-clause-done c =
    let upto : c.places.place ≤ length c.args.lefts.now = omega arith in
    done_ok (2 * length c.args.lefts.now) c.places.links (omega (arith, upto)) c.places.invariant.done
