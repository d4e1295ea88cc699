use Rattle.std.proofs.Common.{◌≡◌, ◌<◌, ◌≤◌, ◌^◌, arith, refl, ◌∙◌, ◌++◌, ◌∷◌, [], ap}
use Rattle.contexts.proofs.References.{shaped_cell}
use Rattle.contexts.proofs.Sets.{none_left, met_true, met_false}
use Rattle.contexts.proofs.SearchSteps.{search_start, looked_at, search_found, search_leaf, search_skips, search_opens, search_none}
use Rattle.contexts.proofs.free.stands_free.Goals as goal

pub cells-init : goal.cells-init
cells-init c =
    (refl, search_start _ _ _ _ _ c.new-met.ensures (c.in_ok-push.ensures.items ∙ ap (λ u. u ++ c.args.r ∷ []) c.in_ok-left.ensures.items) c.requires)

pub returns-then-number-leaf-clause-exact : goal.returns-then-number-leaf-clause-exact
returns-then-number-leaf-clause-exact c =
    let low : c.in-Some.at < 2 ^ 30 = grind arith in
    let same : c.in-Some.at ≡ c.args.leaf = grind arith in
    λ t known. (λ e. search_found _ c.one_to_one.ensures _ _ _ _ _ (rw c.in-Some.ensures.items at c.cells.invariant.1) c.parts_of_trees.ensures low same t known, λ f. refl)

pub cells-preserved-then-is_leaf : goal.cells-preserved-then-is_leaf
cells-preserved-then-is_leaf c =
    let low : c.in-Some.at < 2 ^ 30 = grind arith in
    (c.cells.invariant.0, search_leaf _ c.one_to_one.ensures _ _ _ _ _ (rw c.in-Some.ensures.items at c.cells.invariant.1) c.parts_of_trees.ensures low (λ e. absurd (grind arith)))

pub leave_parts-requires-clause-cell : goal.leave_parts-requires-clause-cell
leave_parts-requires-clause-cell c =
    let high : 2 ^ 30 ≤ c.in-Some.at = grind arith in
    rw c.cells.invariant.0
    (shaped_cell _ c.parts_of_trees.ensures _ (looked_at _ _ _ _ _ _ (rw c.in-Some.ensures.items at c.cells.invariant.1)) high)

pub leave_parts-requires-clause-shaped : goal.leave_parts-requires-clause-shaped
leave_parts-requires-clause-shaped c =
    rw c.cells.invariant.0 (looked_at _ _ _ _ _ _ (rw c.in-Some.ensures.items at c.cells.invariant.1))

pub cells-preserved-in-Continue-branch-4 : goal.cells-preserved-in-Continue-branch-4
cells-preserved-in-Continue-branch-4 c = (
  c.leave_parts.ensures.same ∙ c.cells.invariant.0,
  search_opens _ c.one_to_one.ensures _ _ _ _ _ (rw c.in-Some.ensures.items at c.cells.invariant.1) _ _
      (met_true c.cells.met c.meet.new.self _ _ c.in_ok-meet.ensures c.if-branch.true).0 (rw c.cells.invariant.0 at c.in_ok-leave_parts.ensures.parts),
)

pub cells-preserved : goal.cells-preserved
cells-preserved c =
    let met = met_false c.cells.met c.meet.new.self _ _ c.in_ok-meet.ensures c.if-branch.false in (
      c.cells.invariant.0,
      search_skips _ c.one_to_one.ensures _ _ _ _ _ (rw c.in-Some.ensures.items at c.cells.invariant.1) _ met.0 met.1,
    )

pub returns-clause-exact : goal.returns-clause-exact
returns-clause-exact c =
    λ t known. (λ e. absurd cc, λ f. absurd (search_none _ c.one_to_one.ensures _ _ _ _ (none_left _ _ _ c.in_default.ensures.cases.0 c.in_default.ensures.rest c.in_default.ensures.items) c.cells.invariant.1 t known f))
