-- What is met stays with its parts, until nothing is left.
use Rattle.std.proofs.Common.{◌≤◌, ◌<◌, ◌^◌, ◌++◌, ◌∷◌, [], arith, ap, subst, ◌∙◌}
use Rattle.contexts.proofs.Sets.{none_left}
use Rattle.alethe_reader.specs.NeededImages.{IsMet}
use Rattle.alethe_reader.proofs.CellWalks.{walked_cell, walk_skips, walk_leaf, walk_opens, walk_ends}
use Rattle.alethe_reader.proofs.needed_images.met_in.Goals as goal
use Rattle.alethe_reader.proofs.needed_images.met_in.Goals.{then-not-branch-via-then-not-branch, then-not-branch-via-else-not-branch+then-is_leaf}

pub cells-preserved-then-not-branch : goal.cells-preserved-then-not-branch
cells-preserved-then-not-branch c =
    let walk = rw c.in-Some.ensures.items at c.cells.invariant.1 in
    elim c.then-not-branch.branch [
      | then-not-branch-via-then-not-branch w ↦ (c.cells.invariant.0, walk_skips _ _ _ _ _ walk _ (subst (IsMet c.cells.met.keys c.meet.new.met.keys c.in-Some.at) w.if-not-branch.true c.in_ok-meet.ensures.met))
      | then-not-branch-via-else-not-branch+then-is_leaf w ↦
          let low : c.in-Some.at < 2 ^ 30 = grind arith in
          (c.cells.invariant.0, walk_leaf _ _ _ _ _ walk _ (subst (IsMet c.cells.met.keys c.meet.new.met.keys c.in-Some.at) w.if-not-branch.false c.in_ok-meet.ensures.met) c.one_to_one.ensures low)
    ]

pub cell_parts-first-requires : goal.cell_parts-first-requires
cell_parts-first-requires c =
    let walk = rw c.in-Some.ensures.items at c.cells.invariant.1 in
    let high : 2 ^ 30 ≤ c.in-Some.at = grind arith in
    rw c.cells.invariant.0 (walked_cell _ _ _ _ _ walk c.parts_of_trees.ensures high)

pub cells-preserved : goal.cells-preserved
cells-preserved c =
    let walk = rw c.in-Some.ensures.items at c.cells.invariant.1 in
    let high : 2 ^ 30 ≤ c.in-Some.at = grind arith in (
      c.cell_parts-first.ensures.same ∙ c.cells.invariant.0,
      walk_opens _ _ _ _ _ walk _ (subst (IsMet c.cells.met.keys c.meet.new.met.keys c.in-Some.at) c.if-not-branch.false c.in_ok-meet.ensures.met) c.parts_of_trees.ensures c.cell_parts-first.result.0 c.cell_parts-first.result.1 high
          (rw c.cells.invariant.0 at c.cell_parts-first.ensures.first) (rw c.cells.invariant.0 at c.cell_parts-first.ensures.second)
          _ (c.in_ok-push-3.ensures.items ∙ ap (λ u. u ++ c.cell_parts-first.result.1 ∷ []) c.in_ok-push-2.ensures.items),
    )

pub returns-clause-leaves : goal.returns-clause-leaves
returns-clause-leaves c =
    walk_ends _ c.parts_of_trees.ensures _ _ _ (none_left _ _ _ c.in_default.ensures.cases.0 c.in_default.ensures.rest c.in_default.ensures.items) c.cells.invariant.1
