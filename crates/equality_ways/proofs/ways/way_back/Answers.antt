use Rattle.std.proofs.Common.{refl, arith}
use Rattle.equality_ways.proofs.TrailLemmas.{trail_next}
use Rattle.equality_ways.proofs.ways.way_back.Goals as goal

pub back-preserved : goal.back-preserved
back-preserved c =
    let up = c.back-test.true in
    let within = c.back.invariant.0 in
    let earlier = c.requires.backward c.back.at c.step_at-step.result (omega arith) c.step_at-step.ensures in (
      omega (arith, earlier, within),
      rw c.in_ok-push.ensures.items
          (trail_next c.args.steps.now c.args.place c.back.at c.step_at-step.result c.back.back.items _ c.back.invariant.1 (omega arith) c.step_at-step.ensures refl),
    )
