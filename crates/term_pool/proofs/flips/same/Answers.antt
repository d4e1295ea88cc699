use Rattle.std.proofs.Common.{refl, ◌∙◌}
use Rattle.term_pool.proofs.PairLemmas.{look_first, walk_start, walk_cells, walk_answers, walk_new, walk_down, walk_up, walk_end}
use Rattle.term_pool.proofs.Ways.{none_left}
use Rattle.term_pool.proofs.flips.same.Goals as goal

pub returns-in-Some-clause-answer : goal.returns-in-Some-clause-answer
returns-in-Some-clause-answer c =
    rw c.in-Some.is at (look_first _ c.one_to_one.ensures c.parts_of_trees.ensures c.args.equal c.new-memo.result c.new-memo.ensures.empty _ _ c.requires.one c.requires.other _ _ c.terms-at.ensures c.look.ensures)

pub pairs-init : goal.pairs-init
pairs-init c = (
  refl,
  rw (c.new-way.ensures.items, c.terms-at.ensures)
      (walk_start _ c.args.equal c.new-memo.result c.new-memo.ensures.empty _
      (rw c.in_default.is at (look_first _ c.one_to_one.ensures c.parts_of_trees.ensures c.args.equal c.new-memo.result c.new-memo.ensures.empty _ _ c.requires.one c.requires.other _ _ c.terms-at.ensures c.look.ensures))),
  c.requires.of_pool,
)

pub visit_pair-requires-clause-cells : goal.visit_pair-requires-clause-cells
visit_pair-requires-clause-cells c = rw c.pairs.invariant.0 (walk_cells _ _ c.pairs.memo _ _ _ c.pairs.invariant.1)

pub visit_pair-requires-clause-answers : goal.visit_pair-requires-clause-answers
visit_pair-requires-clause-answers c =
    rw c.pairs.invariant.0 (walk_answers _ _ c.pairs.memo _ _ c.pairs.invariant.1)

pub visit_pair-requires-clause-new : goal.visit_pair-requires-clause-new
visit_pair-requires-clause-new c = walk_new _ _ c.pairs.memo _ _ _ c.pairs.invariant.1

pub pairs-preserved-in-Part : goal.pairs-preserved-in-Part
pairs-preserved-in-Part c =
    let visit = rw (c.pairs.invariant.0, c.in-Part.is) at c.in_ok-part.ensures.visit in (
      c.visit_pair.ensures.same ∙ c.pairs.invariant.0,
      rw (c.in_ok-push-in-Part.ensures.items, visit.0)
          (walk_down _ _ c.pairs.memo _ _ _ _ c.pairs.invariant.1 visit.1 visit.2),
      c.visit_pair.ensures.of_pool,
    )

pub pairs-preserved : goal.pairs-preserved
pairs-preserved c =
    let visit = rw (c.pairs.invariant.0, c.in-Done.is) at c.in_ok-part.ensures.visit in (
      c.visit_pair.ensures.same ∙ c.pairs.invariant.0,
      walk_up _ _ c.pairs.memo c.visit_pair.new.memo _ _ _ _ _ (rw c.in-Some-pop.ensures.items at c.pairs.invariant.1)
          visit.0 visit.1,
      c.visit_pair.ensures.of_pool,
    )

pub returns-in-None-clause-answer : goal.returns-in-None-clause-answer
returns-in-None-clause-answer c =
    let visit = rw (c.pairs.invariant.0, c.in-Done.is) at c.in_ok-part.ensures.visit in
    let root =
    walk_end _ _ c.pairs.memo _ _ _
    (none_left _ _ _ c.in-None.ensures.cases.0 c.in-None.ensures.rest c.in-None.ensures.items) c.pairs.invariant.1 in
    rw root at visit.1
