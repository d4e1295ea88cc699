use Rattle.std.proofs.Common.{◌∙◌, ◌≤◌, ◌^◌, arith}
use Rattle.pair_pool.specs.Views.{Knows}
use Rattle.term_pool.specs.Building.{PlacesOnlyIn, IsFullIn}
use Rattle.contexts.specs.declared.places.Place.TheVariants.{Term}
use Rattle.term_pool.proofs.Keeping.{terms-refl, terms-trans}
use Rattle.contexts.proofs.ClosedLemmas.{closed_later}
use Rattle.contexts.proofs.PlaceKeys.{same_place}
use Rattle.contexts.proofs.Results.{handed_on}
use Rattle.contexts.proofs.Walking.{images_later, walk_start, right_start, walk_spot, walk_unmet, walk_down, walk_up, walk_root, no_places, places_more, lacks_more, memory_kept, memory_more, made_high, right_lists, at_root, ready_of, root_done}
use Rattle.contexts.proofs.Keeping.{found_done, none_high, none_unmet, right_for, have_images, walked_more, memory_same, no_some}
use Rattle.contexts.proofs.putting.put.Goals as goal

pub returns-in-Some-clause-image : goal.returns-in-Some-clause-image
returns-in-Some-clause-image c =
    found_done _ c.args.images.now _ _ c.args.closed.now c.args.r c.look.result c.look.ensures.leaf c.look.ensures.cell c.one_to_one.ensures c.parts_of_trees.ensures c.requires.closed c.requires.walked _ c.in-Some.is

pub places-init : goal.places-init
places-init c =
    let high : 2 ^ 30 ≤ c.args.r = none_high c.args.terms.now.pass c.args.images.now c.args.walked.now.layers.lists.items c.args.walked.now.memo c.args.closed.now c.args.r c.look.result c.look.ensures.leaf c.look.ensures.cell (no_some c.look.result c.in_default.not-Some) in
    record {
      keeps = terms-refl _;
      first = c.requires.walked.first;
      some = c.requires.walked.some;
      whole = c.requires.shaped.tree;
      whole_known = c.requires.shaped.known;
      walk = walk_start _ c.args.images.now _ _ _ _ (none_unmet c.args.terms.now.pass c.args.images.now c.args.walked.now.layers.lists.items c.args.walked.now.memo c.args.closed.now c.args.r c.look.result c.look.ensures.leaf c.look.ensures.cell (no_some c.look.result c.in_default.not-Some)) c.requires.walked.some c.requires.shaped high c.new-way.ensures.items;
      right = λ f are. right_start _ f _ _ _ _ (right_for _ c.one_to_one.ensures c.args.images.now _ _ c.requires.walked f are);
    }

pub visit-requires-clause-spot : goal.visit-requires-clause-spot
visit-requires-clause-spot c = walk_spot _ _ c.one_to_one-in-places.ensures c.args.images.now _ c.places.walked.memo _ _ _ _ c.places.invariant.walk

pub visit-requires-clause-ready : goal.visit-requires-clause-ready
visit-requires-clause-ready c = ready_of _ _ c.places.invariant.keeps.pass _ _ _ _ _ (have_images _ _ _ _ c.requires.walked) c.places.invariant.right

pub visit-requires-clause-closed : goal.visit-requires-clause-closed
visit-requires-clause-closed c = closed_later _ _ c.places.invariant.keeps.pass _ _ c.requires.closed

pub returns-in_err-part-clause-placed : goal.returns-in_err-part-clause-placed
returns-in_err-part-clause-placed c =
    let h = c.places.invariant in
    λ f t are known.
    at_root _ c.one_to_one.ensures _ c.places.walked.layers.lists.items f h.whole t h.whole_known known h.first (PlacesOnlyIn c.args.terms.now.pass c.visit.new.terms.pass)
    (places_more _ _ c.one_to_one-in-places.ensures c.args.images.now _ c.places.walked.memo _ _ _ _ h.walk _ f c.visit.ensures.keeps.pass are (h.right f are).placed
    (c.visit.ensures.visits.placed f (images_later _ _ h.keeps.pass c.args.images.now f are) (h.right f are).right))

pub returns-in_err-part-clause-full : goal.returns-in_err-part-clause-full
returns-in_err-part-clause-full c =
    let h = c.places.invariant in
    handed_on c.from_residual.result _ _ c.from_residual.ensures.1
    (λ is f t are known.
    at_root _ c.one_to_one.ensures _ c.places.walked.layers.lists.items f h.whole t h.whole_known known h.first (IsFullIn c.visit.new.terms.pass)
    (lacks_more _ _ c.one_to_one-in-places.ensures c.args.images.now _ c.places.walked.memo _ _ _ _ h.walk _ f are
    (c.in_err-part.ensures.visits.full is f (images_later _ _ h.keeps.pass c.args.images.now f are) (h.right f are).right)))

pub returns-in_err-push-in-Part-clause-placed : goal.returns-in_err-push-in-Part-clause-placed
returns-in_err-push-in-Part-clause-placed c =
    let h = c.places.invariant in
    λ f t are known.
    at_root _ c.one_to_one.ensures _ c.places.walked.layers.lists.items f h.whole t h.whole_known known h.first (PlacesOnlyIn c.args.terms.now.pass c.visit.new.terms.pass)
    (places_more _ _ c.one_to_one-in-places.ensures c.args.images.now _ c.places.walked.memo _ _ _ _ h.walk _ f c.visit.ensures.keeps.pass are (h.right f are).placed
    (c.visit.ensures.visits.placed f (images_later _ _ h.keeps.pass c.args.images.now f are) (h.right f are).right))

pub returns-in_err-note-in-Done-clause-placed : goal.returns-in_err-note-in-Done-clause-placed
returns-in_err-note-in-Done-clause-placed c =
    let h = c.places.invariant in
    λ f t are known.
    at_root _ c.one_to_one.ensures _ c.places.walked.layers.lists.items f h.whole t h.whole_known known h.first (PlacesOnlyIn c.args.terms.now.pass c.visit.new.terms.pass)
    (places_more _ _ c.one_to_one-in-places.ensures c.args.images.now _ c.places.walked.memo _ _ _ _ h.walk _ f c.visit.ensures.keeps.pass are (h.right f are).placed
    (c.visit.ensures.visits.placed f (images_later _ _ h.keeps.pass c.args.images.now f are) (h.right f are).right))

pub returns-in-None-clause-placed : goal.returns-in-None-clause-placed
returns-in-None-clause-placed c =
    let h = c.places.invariant in
    λ f t are known.
    at_root _ c.one_to_one.ensures _ c.places.walked.layers.lists.items f h.whole t h.whole_known known h.first (PlacesOnlyIn c.args.terms.now.pass c.visit.new.terms.pass)
    (places_more _ _ c.one_to_one-in-places.ensures c.args.images.now _ c.places.walked.memo _ _ _ _ h.walk _ f c.visit.ensures.keeps.pass are (h.right f are).placed
    (c.visit.ensures.visits.placed f (images_later _ _ h.keeps.pass c.args.images.now f are) (h.right f are).right))

pub places-preserved-in-Part : goal.places-preserved-in-Part
places-preserved-in-Part c =
    let h = c.places.invariant in
    let visits = rw c.in-Part.is at c.in_ok-part.ensures.visits in
    record {
      keeps = terms-trans _ _ _ h.keeps c.visit.ensures.keeps;
      first = c.visit.ensures.layers.same 0 h.walk.root_inside ∙ h.first;
      some = let more = c.visit.ensures.layers.more in let some = h.some in omega arith;
      whole = h.whole;
      whole_known = h.whole_known;
      walk = rw c.in_ok-push-in-Part.ensures.items
          (walk_down _ _ c.one_to_one-in-places.ensures c.args.images.now _ c.places.walked.memo _ _ _ _ h.walk _ _ _ h.keeps.pass c.visit.ensures.keeps.pass c.visit.ensures.layers visits.visit);
      right = λ f are. record {
        right = memory_kept _ _ c.one_to_one-in-places.ensures c.args.images.now _ c.places.walked.memo _ _ _ _ h.walk _ f _ c.visit.ensures.keeps.pass c.visit.ensures.layers (h.right f are).right;
        placed = right_lists c.args.terms.now.pass c.visit.new.terms.pass f _ _ (Term c.args.r 0) h.whole c.visit.ensures.layers h.walk.root_inside
            (places_more _ _ c.one_to_one-in-places.ensures c.args.images.now _ c.places.walked.memo _ _ _ _ h.walk _ f c.visit.ensures.keeps.pass are (h.right f are).placed
            (c.visit.ensures.visits.placed f (images_later _ _ h.keeps.pass c.args.images.now f are) (h.right f are).right));
      };
    }

pub note-requires-clause-cell : goal.note-requires-clause-cell
note-requires-clause-cell c =
    let h = c.places.invariant in
    let visits = rw c.in-Done.is at c.in_ok-part.ensures.visits in
    made_high _ _ c.one_to_one-in-places.ensures c.args.images.now _ c.places.walked.memo _ _ _ _ h.walk _ c.one_to_one-in-Done.ensures c.parts_of_trees-in-Done.ensures c.visit.ensures.keeps.pass _
    (ready_of _ _ h.keeps.pass _ _ _ _ _ (have_images _ _ _ _ c.requires.walked) h.right) visits.done

pub note-requires-clause-unmet : goal.note-requires-clause-unmet
note-requires-clause-unmet c = walk_unmet _ _ c.one_to_one-in-places.ensures c.args.images.now _ c.places.walked.memo _ _ _ _ c.places.invariant.walk

pub places-preserved : goal.places-preserved
places-preserved c =
    let h = c.places.invariant in
    let visits = rw c.in-Done.is at c.in_ok-part.ensures.visits in
    record {
      keeps = terms-trans _ _ _ h.keeps c.visit.ensures.keeps;
      first = c.visit.ensures.layers.same 0 h.walk.root_inside ∙ h.first;
      some = let more = c.visit.ensures.layers.more in let some = h.some in omega arith;
      whole = h.whole;
      whole_known = h.whole_known;
      walk = walk_up _ _ _ c.one_to_one-in-places.ensures c.args.images.now _ _ c.places.walked.memo c.note.new.memo _ _ _ _ _ _ c.visit.ensures.keeps.pass c.visit.ensures.layers c.in_ok-note-in-Done.ensures.noted
          (rw c.in-Some-pop.ensures.items at h.walk);
      right = λ f are. record {
        right = memory_more _ _ c.one_to_one-in-places.ensures c.args.images.now _ c.places.walked.memo _ _ _ _ h.walk _ f _ c.note.new.memo _ c.visit.ensures.keeps.pass c.visit.ensures.layers same_place (h.right f are).right c.in_ok-note-in-Done.ensures.noted
            (visits.done f (images_later _ _ h.keeps.pass c.args.images.now f are) (h.right f are).right);
        placed = right_lists c.args.terms.now.pass c.visit.new.terms.pass f _ _ (Term c.args.r 0) h.whole c.visit.ensures.layers h.walk.root_inside
            (places_more _ _ c.one_to_one-in-places.ensures c.args.images.now _ c.places.walked.memo _ _ _ _ h.walk _ f c.visit.ensures.keeps.pass are (h.right f are).placed
            (c.visit.ensures.visits.placed f (images_later _ _ h.keeps.pass c.args.images.now f are) (h.right f are).right));
      };
    }

pub returns-in-None-clause-image : goal.returns-in-None-clause-image
returns-in-None-clause-image c =
    let h = c.places.invariant in
    let visits = rw c.in-Done.is at c.in_ok-part.ensures.visits in
    let root = walk_root _ _ c.args.images.now _ c.places.walked.memo _ _ _ _ (no_places _ _ _ c.in-None.ensures.cases.0 c.in-None.ensures.rest c.in-None.ensures.items) h.walk in
    λ f t are known.
    at_root _ c.one_to_one.ensures _ c.places.walked.layers.lists.items f h.whole t h.whole_known known h.first (Knows c.visit.new.terms.pass c.in-Done.made)
    (root_done _ _ f c.places.walked.layers.lists.items _ _ h.whole _ root
    (visits.done f (images_later _ _ h.keeps.pass c.args.images.now f are) (h.right f are).right) (h.keeps.pass.grows _ _ h.whole_known))

pub returns-in_err-part-clause-walked : goal.returns-in_err-part-clause-walked
returns-in_err-part-clause-walked c =
    let h = c.places.invariant in
    walked_more _ _ (terms-trans _ _ _ h.keeps c.visit.ensures.keeps).pass c.args.images.now _ _ _ _ c.requires.walked
    (λ f are. memory_kept _ _ c.one_to_one-in-places.ensures c.args.images.now _ c.places.walked.memo _ _ _ _ h.walk _ f _ c.visit.ensures.keeps.pass c.visit.ensures.layers (h.right f are).right)
    (c.visit.ensures.layers.same 0 h.walk.root_inside ∙ h.first)
    (let more = c.visit.ensures.layers.more in let some = h.some in omega arith)

pub returns-in_err-push-in-Part-clause-walked : goal.returns-in_err-push-in-Part-clause-walked
returns-in_err-push-in-Part-clause-walked c =
    let h = c.places.invariant in
    walked_more _ _ (terms-trans _ _ _ h.keeps c.visit.ensures.keeps).pass c.args.images.now _ _ _ _ c.requires.walked
    (λ f are. memory_kept _ _ c.one_to_one-in-places.ensures c.args.images.now _ c.places.walked.memo _ _ _ _ h.walk _ f _ c.visit.ensures.keeps.pass c.visit.ensures.layers (h.right f are).right)
    (c.visit.ensures.layers.same 0 h.walk.root_inside ∙ h.first)
    (let more = c.visit.ensures.layers.more in let some = h.some in omega arith)

pub returns-in_err-note-in-Done-clause-walked : goal.returns-in_err-note-in-Done-clause-walked
returns-in_err-note-in-Done-clause-walked c =
    let h = c.places.invariant in
    walked_more _ _ (terms-trans _ _ _ h.keeps c.visit.ensures.keeps).pass c.args.images.now _ _ _ _ c.requires.walked
    (λ f are. memory_same _ f _ c.places.walked.memo c.note.new.memo c.in_err-note-in-Done.ensures.kept (memory_kept _ _ c.one_to_one-in-places.ensures c.args.images.now _ c.places.walked.memo _ _ _ _ h.walk _ f _ c.visit.ensures.keeps.pass c.visit.ensures.layers (h.right f are).right))
    (c.visit.ensures.layers.same 0 h.walk.root_inside ∙ h.first)
    (let more = c.visit.ensures.layers.more in let some = h.some in omega arith)

pub returns-in-None-clause-walked : goal.returns-in-None-clause-walked
returns-in-None-clause-walked c =
    let h = c.places.invariant in
    let visits = rw c.in-Done.is at c.in_ok-part.ensures.visits in
    walked_more _ _ (terms-trans _ _ _ h.keeps c.visit.ensures.keeps).pass c.args.images.now _ _ _ _ c.requires.walked
    (λ f are. memory_more _ _ c.one_to_one-in-places.ensures c.args.images.now _ c.places.walked.memo _ _ _ _ h.walk _ f _ c.note.new.memo _ c.visit.ensures.keeps.pass c.visit.ensures.layers same_place (h.right f are).right c.in_ok-note-in-Done.ensures.noted
    (visits.done f (images_later _ _ h.keeps.pass c.args.images.now f are) (h.right f are).right))
    (c.visit.ensures.layers.same 0 h.walk.root_inside ∙ h.first)
    (let more = c.visit.ensures.layers.more in let some = h.some in omega arith)
