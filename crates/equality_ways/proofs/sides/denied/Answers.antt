use Rattle.std.proofs.Common.{◌∙◌}
use Rattle.term_pool.specs.Views.{RefersTo}
use Rattle.equality_ways.specs.Sides.{AreSidesOfDenial}
use Rattle.equality_ways.proofs.SideLemmas.{sides_next}
use Rattle.equality_ways.proofs.sides.denied.Goals as goal

pub loop-literal-preserved : goal.loop-literal-preserved
loop-literal-preserved c = (
  c.denial_sides.ensures.same ∙ c.loop-literal.invariant.0,
  rw c.in_ok-push.ensures.items
      (sides_next (RefersTo c.args.symbols.now c.args.terms.now) (AreSidesOfDenial c.args.symbols.now c.args.terms.now) c.args.literals.now
      c.loop-literal.literal-index c.literal-item.result c.loop-literal.sides.items c.denial_sides.result c.loop-literal-test.true c.literal-item.is
      c.loop-literal.invariant.1 (rw c.loop-literal.invariant.0 at c.denial_sides.ensures.sides)),
)
