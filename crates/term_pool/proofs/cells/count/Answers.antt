use Rattle.std.proofs.Common.{refl, ◌∙◌}
use Rattle.std.proofs.lemmas.List.{take_all}
use Rattle.term_pool.proofs.ListingLemmas.{count_start, count_step, counted}
use Rattle.term_pool.proofs.cells.count.Goals as goal

pub references-init : goal.references-init
references-init c =
    (refl, count_start _ c.args.list.now _ (c.new-listing.ensures.listing _ c.requires.of_pool) c.new-listing.ensures.cells, c.requires.of_pool)

pub references-preserved : goal.references-preserved
references-preserved c = (
  c.in_ok-add.ensures.same ∙ c.references.invariant.0,
  count_step _ c.one_to_one.ensures _ _ _ c.references-test.true c.r-item.is c.requires.known _ _ _ c.references.invariant.1
      (rw c.references.invariant.0 at c.in_ok-add.ensures.listing)
      (rw c.references.invariant.0 at c.in_ok-add.ensures.part)
      (rw c.references.invariant.0 at c.in_ok-add.ensures.adds),
  c.in_ok-add.ensures.of_pool,
)

pub returns-clause-count : goal.returns-clause-count
returns-clause-count c =
    counted _ c.one_to_one.ensures _ _ _ (rw (take_all _ _ c.references-test.false) at c.references.invariant.1)
    (c.len.ensures ∙ c.references.listing.cells.ok.0)
