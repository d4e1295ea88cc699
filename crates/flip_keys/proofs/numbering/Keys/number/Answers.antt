use Rattle.std.proofs.Common.{refl, sym, ◌∙◌, subst}
use Rattle.term_pool.proofs.Ways.{none_left}
use Rattle.flip_keys.specs.declared.memory.Item.{Item}
use Rattle.flip_keys.specs.Walks.{HasClassNumber}
use Rattle.flip_keys.proofs.Walking.{same_keeps, walk_known, walk_new, walk_start, walk_down, walk_up, walk_end, settled_more, settled_here, settled_keys}
use Rattle.flip_keys.proofs.numbering.Keys.number.Goals as goal

pub items-init : goal.items-init
items-init c = (
  refl,
  rw c.new-way.ensures.items (walk_start _ _ _ c.requires.known (sym (rw c.in_default.is at c.look.ensures))),
  c.requires.keys,
  same_keeps c.args.self.now.classes.keys,
)

pub visit_item-requires : goal.visit_item-requires
visit_item-requires c = rw c.items.invariant.0 (walk_known _ _ _ _ _ c.items.invariant.1)

pub items-preserved-in-Part : goal.items-preserved-in-Part
items-preserved-in-Part c =
    let visit = rw (c.items.invariant.0, c.in-Part.is) at c.visit_item.ensures.visit in (
      c.visit_item.ensures.same ∙ c.items.invariant.0,
      rw c.in_ok-push-in-Part.ensures.items (walk_down _ _ _ _ _ _ c.items.invariant.1 visit.0 visit.1),
      c.items.invariant.2,
      c.items.invariant.3,
    )

pub settle-requires : goal.settle-requires
settle-requires c = walk_new _ _ _ _ _ c.items.invariant.1

pub items-preserved : goal.items-preserved
items-preserved c =
    let visit = rw (c.items.invariant.0, c.in-Done.is) at c.visit_item.ensures.visit in
    let known = walk_known _ _ _ _ _ c.items.invariant.1 in
    let settles = c.in_ok-number-in-Done.ensures.settled in (
      c.visit_item.ensures.same ∙ c.items.invariant.0,
      walk_up _ _ _ _ _ _ _ _ (rw c.in-Some-pop.ensures.items at c.items.invariant.1) settles.noted,
      settled_keys c.args.terms.now.pass c.items.self c.settle.new.self c.items.at c.in-Done.class c.in_ok-number-in-Done.number c.items.invariant.2 visit known settles,
      λ k x h. settled_more c.args.terms.now.pass c.items.self c.settle.new.self c.items.at c.in-Done.class c.in_ok-number-in-Done.number c.items.invariant.2 visit known settles k x (c.items.invariant.3 k x h),
    )

pub returns-in-None-clause-number : goal.returns-in-None-clause-number
returns-in-None-clause-number c =
    let visit = rw (c.items.invariant.0, c.in-Done.is) at c.visit_item.ensures.visit in
    let known = walk_known _ _ _ _ _ c.items.invariant.1 in
    let settles = c.in_ok-number-in-Done.ensures.settled in
    let root = walk_end _ _ _ _ _ (none_left _ _ _ c.in-None.ensures.cases.0 c.in-None.ensures.rest c.in-None.ensures.items) c.items.invariant.1 in
    subst (λ (x : Item). HasClassNumber c.args.terms.now.pass c.settle.new.self.classes.keys x c.in_ok-number-in-Done.number) root
    (settled_here c.args.terms.now.pass c.items.self c.settle.new.self c.items.at c.in-Done.class c.in_ok-number-in-Done.number c.items.invariant.2 visit known settles)

pub returns-in-None-clause-keys : goal.returns-in-None-clause-keys
returns-in-None-clause-keys c =
    let visit = rw (c.items.invariant.0, c.in-Done.is) at c.visit_item.ensures.visit in
    let known = walk_known _ _ _ _ _ c.items.invariant.1 in
    settled_keys c.args.terms.now.pass c.items.self c.settle.new.self c.items.at c.in-Done.class c.in_ok-number-in-Done.number c.items.invariant.2 visit known c.in_ok-number-in-Done.ensures.settled

pub returns-in-None-clause-more : goal.returns-in-None-clause-more
returns-in-None-clause-more c =
    let visit = rw (c.items.invariant.0, c.in-Done.is) at c.visit_item.ensures.visit in
    let known = walk_known _ _ _ _ _ c.items.invariant.1 in
    λ k x h. settled_more c.args.terms.now.pass c.items.self c.settle.new.self c.items.at c.in-Done.class c.in_ok-number-in-Done.number c.items.invariant.2 visit known c.in_ok-number-in-Done.ensures.settled k x (c.items.invariant.3 k x h)
