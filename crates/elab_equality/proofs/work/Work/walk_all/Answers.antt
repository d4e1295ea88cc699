use Rattle.std.proofs.Common.{◌<◌, ◌≤◌, arith, length, sym}
use Rattle.elab_equality.proofs.WalkLemmas.{given_sides_later, leads_there, walking_end, walking_more, walking_none}
use Rattle.elab_equality.proofs.WorkLemmas.{done_err, done_memory, done_ok, done_then}
use Rattle.elab_equality.proofs.work.Work.walk_all.Goals as goal

pub way-init : goal.way-init
way-init c =
    let w = c.args.walk.now in
    rw c.new-links.ensures.items
    (walking_none c.args.at.now c.args.terms.now c.args.self.now w.sides.items w.used.items w.from w.to c.requires.work c.requires.walk.way)

pub used_at-used-requires : goal.used_at-used-requires
used_at-used-requires c =
    let below : c.way.place < length c.args.walk.now.used.items = omega (arith, c.len-place-end.ensures, c.args.walk.now.used.ok.0) in
    rw c.deref.ensures.value below

pub walk_on-requires-clause-work : goal.walk_on-requires-clause-work
walk_on-requires-clause-work c = c.way.invariant.done.moved.work

pub walk_on-requires-clause-given : goal.walk_on-requires-clause-given
walk_on-requires-clause-given c =
    rw c.deref-in-way.ensures.value
    (given_sides_later c.args.at.now c.args.terms.now c.way.terms c.way.invariant.done.keeps c.args.walk.now.sides.items c.requires.walk.given)

pub walk_on-requires-clause-leads : goal.walk_on-requires-clause-leads
walk_on-requires-clause-leads c =
    let w = c.args.walk.now in
    let step = c.used_at-used.result in
    let below : c.way.place < length w.used.items = omega (arith, c.len-place-end.ensures, w.used.ok.0) in
    rw c.deref-in-way.ensures.value
    (leads_there c.args.at.now c.args.terms.now c.way.terms c.args.self.now c.way.self w.sides.items w.used.items w.from w.to c.way.place c.way.links.items
    c.way.invariant below step (sym (rw c.deref.ensures.value at c.used_at-used.ensures step)))

pub returns-in_err-link-clause-done : goal.returns-in_err-link-clause-done
returns-in_err-link-clause-done c =
    let below : c.way.place < length c.args.walk.now.used.items = omega (arith, c.len-place-end.ensures, c.args.walk.now.used.ok.0) in
    done_then (length c.args.walk.now.used.items) (omega (arith, below)) c.way.invariant.done
    (done_err c.walk_on.new.self 1 c.from_residual.result c.in_err-link.ensures.done c.from_residual.ensures.1)

pub returns-in_err-add_link-clause-done : goal.returns-in_err-add_link-clause-done
returns-in_err-add_link-clause-done c =
    let below : c.way.place < length c.args.walk.now.used.items = omega (arith, c.len-place-end.ensures, c.args.walk.now.used.ok.0) in
    done_then (length c.args.walk.now.used.items) (omega (arith, below)) c.way.invariant.done
    (done_then 1 (omega arith) c.in_ok-link.ensures.done
    (done_memory c.args.at.now c.walk_on.new.terms c.walk_on.new.self c.walk_on.new.self 0 c.from_residual-in_err-add_link.result
    c.from_residual-in_err-add_link.ensures.1))

pub way-preserved : goal.way-preserved
way-preserved c =
    let w = c.args.walk.now in
    let step = c.used_at-used.result in
    let below : c.way.place < length w.used.items = omega (arith, c.len-place-end.ensures, w.used.ok.0) in
    rw c.in_ok-add_link.ensures
    (walking_more c.args.at.now c.args.terms.now c.way.terms c.args.self.now c.way.self w.sides.items w.used.items w.from w.to c.way.place c.way.links.items
    c.way.invariant below step (sym (rw c.deref.ensures.value at c.used_at-used.ensures step)) c.walk_on.new.terms c.walk_on.new.self c.in_ok-link.link
    c.in_ok-link.ensures.done (rw c.deref-in-way.ensures.value at c.in_ok-link.ensures.linked))

pub returns-clause-linked : goal.returns-clause-linked
returns-clause-linked c =
    let w = c.args.walk.now in
    let upto : c.way.place ≤ length w.used.items = omega (arith, c.len-place-end.ensures, w.used.ok.0) in
    let past : length w.used.items ≤ c.way.place = omega (arith, c.len-place-end.ensures, w.used.ok.0) in
    (walking_end c.args.at.now c.args.terms.now c.way.terms c.args.self.now c.way.self w.sides.items w.used.items w.from w.to c.way.place c.way.links.items
    c.way.invariant (omega (arith, upto, past))).walked

pub returns-clause-done : goal.returns-clause-done
returns-clause-done c =
    let upto : c.way.place ≤ length c.args.walk.now.used.items = omega (arith, c.len-place-end.ensures, c.args.walk.now.used.ok.0) in
    done_ok (length c.args.walk.now.used.items) c.way.links upto c.way.invariant.done
