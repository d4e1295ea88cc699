use Rattle.std.proofs.Common.{ap, ◌∙◌, take}
use Rattle.std.proofs.lemmas.List.{take_all}
use Rattle.term_pool.specs.Listings.{trees_of, cell_at}
use Rattle.term_pool.proofs.Keeping.{keeps-trans}
use Rattle.term_pool.proofs.ListingLemmas.{stands_at}
use Rattle.term_pool.proofs.PuttingLemmas.{images_later, IsJoining, listed_below, parts_ready, joining_lacks, joining_places, joining_more}
use Rattle.term_pool.proofs.Results.{any_err}
use Rattle.term_pool.proofs.putting.put.Goals.{After-look-second}
use Rattle.term_pool.proofs.putting.put.Goals as goal

joining :
    (c : After-look-second) →
    IsJoining c.args.pass.now.view c.cells.pass.view c.args.images.now c.args.r c.cells.made.items
    (trees_of (take c.cells.c-index c.deref-c-items.result.now)) (cell_at c.deref-c-items.result.now c.cells.c-index)
    c.look-first.result c.look-second.result
joining c =
    let here = stands_at _ _ _ _ c.in_ok-whole.ensures.listing c.deref-c-items.ensures.value c.cells-test.true in
    record {
      keeps = c.cells.invariant.keeps;
      below = listed_below _ _ _ _ here (rw (c.new-listing.ensures.cells, ← c.deref-c-items.ensures.value) at c.in_ok-whole.ensures.adds);
      right = c.cells.invariant.right;
      first = λ f are.
          c.look-first.ensures _ f _ (images_later _ _ c.cells.invariant.keeps c.args.images.now f are)
          (rw c.deref.ensures.value (c.cells.invariant.right f are).are);
      second = λ f are.
          c.look-second.ensures _ f _ (images_later _ _ c.cells.invariant.keeps c.args.images.now f are)
          (rw c.deref-in-cells.ensures.value (c.cells.invariant.right f are).are);
    }

pub look-first-requires : goal.look-first-requires
look-first-requires c =
    let here = stands_at _ _ _ _ c.in_ok-whole.ensures.listing c.deref-c-items.ensures.value c.cells-test.true in
    rw (c.deref.ensures.value, (c.cells.invariant.right c.requires.images.pieces c.requires.images.are).are.each) here.first

pub look-second-requires : goal.look-second-requires
look-second-requires c =
    let here = stands_at _ _ _ _ c.in_ok-whole.ensures.listing c.deref-c-items.ensures.value c.cells-test.true in
    rw (c.deref-in-cells.ensures.value, (c.cells.invariant.right c.requires.images.pieces c.requires.images.are).are.each) here.second

pub join-requires-clause-ready : goal.join-requires-clause-ready
join-requires-clause-ready c =
    parts_ready _ _ _ _ _ _ _ _ _ (joining (goal.at.join-requires-clause-ready c).After-look-second)
    c.one_to_one.ensures c.parts_of_trees.ensures c.lists_in_order.ensures c.requires.images

pub returns-in_err-join-clause-placed : goal.returns-in_err-join-clause-placed
returns-in_err-join-clause-placed c = λ f are t known.
    (joining_lacks _ _ _ _ _ _ _ _ _ (joining (goal.at.returns-in_err-join-clause-placed c).After-look-second) _ c.in_err-join.ensures.refused f are t known).placed

pub returns-in_err-join-clause-full : goal.returns-in_err-join-clause-full
returns-in_err-join-clause-full c =
    any_err c.from_residual-in_err-join.result _ (λ e is f are t known.
    (joining_lacks _ _ _ _ _ _ _ _ _ (joining (goal.at.returns-in_err-join-clause-full c).After-look-second) _ c.in_err-join.ensures.refused f are t known).full)

pub returns-in_err-push-clause-placed : goal.returns-in_err-push-clause-placed
returns-in_err-push-clause-placed c = λ f are.
    joining_places _ _ _ _ _ _ _ _ _ (joining (goal.at.returns-in_err-push-clause-placed c).After-look-second) _ _ c.in_ok-join.ensures.made f are

pub cells-preserved : goal.cells-preserved
cells-preserved c =
    let here = stands_at _ _ _ _ c.in_ok-whole.ensures.listing c.deref-c-items.ensures.value c.cells-test.true in
    record {
      keeps = keeps-trans _ _ _ c.cells.invariant.keeps c.in_ok-join.ensures.made.keeps;
      of_pool = c.join.ensures.of_pool;
      right = λ f are.
          rw (c.in_ok-push.ensures.items, here.more)
          (joining_more _ _ _ _ _ _ _ _ _ (joining (goal.at.cells-preserved c).After-look-second) _ _ c.in_ok-join.ensures.made c.in_ok-join.ensures.is f are);
    }

pub look-requires : goal.look-requires
look-requires c =
    let all = ap trees_of (take_all _ _ c.cells-test.false ∙ c.deref-c-items.ensures.value) in
    rw (c.deref-2.ensures.value, (c.cells.invariant.right c.requires.images.pieces c.requires.images.are).are.each, all)
    (c.in_ok-whole.ensures.part _ c.requires.known.stands).before

pub returns-clause-image : goal.returns-clause-image
returns-clause-image c = λ f t are known.
    let all = ap trees_of (take_all _ _ c.cells-test.false ∙ c.deref-c-items.ensures.value) in
    rw (c.in_ok-whole.ensures.part t known).is at
    (c.look.ensures c.cells.pass.view f (trees_of c.add.new.self.cells.items) (images_later _ _ c.cells.invariant.keeps c.args.images.now f are)
    (rw (c.deref-2.ensures.value, ← all) (c.cells.invariant.right f are).are))
