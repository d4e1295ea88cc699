use Rattle.std.proofs.Common.{◌∙◌, ℕ, List}
use Rattle.std.specs.Borrow.{Bor}
use Rattle.term_pool.specs.Views.{ReferToAll}
use Rattle.equality_ways.specs.Sides.{AreSidesOfUnit}
use Rattle.equality_ways.proofs.SideLemmas.{sides_next}
use Rattle.equality_ways.proofs.sides.premised.Goals as goal

pub loop-premise-preserved : goal.loop-premise-preserved
loop-premise-preserved c = (
  c.unit_sides.ensures.same ∙ c.loop-premise.invariant.0,
  rw c.in_ok-push.ensures.items
      (sides_next (λ (references : Bor (List ℕ)) clause. ReferToAll c.args.symbols.now c.args.terms.now references.now clause)
      (AreSidesOfUnit c.args.symbols.now c.args.terms.now) c.args.premises.now c.loop-premise.premise-index c.premise-item.result c.loop-premise.sides.items
      c.unit_sides.result c.loop-premise-test.true c.premise-item.is c.loop-premise.invariant.1 (rw c.loop-premise.invariant.0 at c.unit_sides.ensures.sides)),
)
