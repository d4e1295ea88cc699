use Rattle.std.proofs.Common.{◌*◌, length, arith}
use Rattle.elab_equality.proofs.LinkLemmas.{given_later}
use Rattle.elab_equality.proofs.ClosingLemmas.{binding_more, binding_none, binding_whole, bound_at, image_below}
use Rattle.elab_equality.proofs.WorkLemmas.{done_err, done_memory, done_ok, done_then}
use Rattle.elab_equality.proofs.work.Work.link_values.Goals as goal

pub places-init : goal.places-init
places-init c =
    rw c.new-links.ensures.items (binding_none c.args.at.now c.args.terms.now c.args.self.now c.args.values.now c.args.images.now c.requires.work)

pub bounds-images-place : goal.bounds-images-place
bounds-images-place c = image_below c.args.at.now c.args.terms.now c.args.values.now c.args.images.now c.requires.pairs c.places.place c.places-test.true

pub link_bound-requires-clause-work : goal.link_bound-requires-clause-work
link_bound-requires-clause-work c = c.places.invariant.done.moved.work

pub link_bound-requires-clause-given : goal.link_bound-requires-clause-given
link_bound-requires-clause-given c =
    given_later c.args.at.now c.args.terms.now c.places.terms c.places.invariant.done.keeps c.args.given.now c.requires.given

pub link_bound-requires-clause-pair : goal.link_bound-requires-clause-pair
link_bound-requires-clause-pair c =
    bound_at c.args.at.now c.args.terms.now c.args.values.now c.args.images.now c.requires.pairs c.places.place c.places-test.true c.places.terms c.args.self.now
    c.places.self c.places.links.items c.index-values-place.result c.index-images-place.result c.places.invariant c.index-values-place.is c.index-images-place.is

pub returns-in_err-link-clause-done : goal.returns-in_err-link-clause-done
returns-in_err-link-clause-done c =
    done_then (2 * length c.args.values.now) (omega (arith, c.places-test.true)) c.places.invariant.done
    (done_err c.link_bound.new.self 2 c.from_residual.result c.in_err-link.ensures.done c.from_residual.ensures.1)

pub returns-in_err-add_link-clause-done : goal.returns-in_err-add_link-clause-done
returns-in_err-add_link-clause-done c =
    done_then (2 * length c.args.values.now) (omega (arith, c.places-test.true)) c.places.invariant.done
    (done_then 2 (omega arith) c.in_ok-link.ensures.done
    (done_memory c.args.at.now c.link_bound.new.terms c.link_bound.new.self c.link_bound.new.self 0 c.from_residual-in_err-add_link.result
    c.from_residual-in_err-add_link.ensures.1))

pub places-preserved : goal.places-preserved
places-preserved c =
    rw c.in_ok-add_link.ensures
    (binding_more c.args.at.now c.args.terms.now c.args.values.now c.args.images.now c.requires.pairs c.places.place c.places-test.true c.places.terms
    c.link_bound.new.terms c.args.self.now c.places.self c.link_bound.new.self c.places.links.items c.index-values-place.result c.index-images-place.result
    c.in_ok-link.link c.places.invariant c.index-values-place.is c.index-images-place.is c.in_ok-link.ensures.done c.in_ok-link.ensures.linked)

pub returns-clause-linked : goal.returns-clause-linked
returns-clause-linked c =
    binding_whole c.args.at.now c.args.terms.now c.places.terms c.args.self.now c.places.self c.args.values.now c.args.images.now c.places.place c.places.links.items
    c.requires.pairs c.places-test.false c.places.invariant

pub returns-clause-done : goal.returns-clause-done
returns-clause-done c = done_ok (2 * length c.args.values.now) c.places.links (omega (arith, c.places.auto.place-end)) c.places.invariant.done
