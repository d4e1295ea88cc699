use Rattle.std.proofs.Common.{◌∙◌}
use Rattle.rules_resolution.specs.Loading.{TakeAway}
use Rattle.rules_resolution.proofs.Loaded.{zip_more}
use Rattle.rules_resolution.proofs.signed.load_pivots.Goals as goal

pub loop-pivot-preserved : goal.loop-pivot-preserved
loop-pivot-preserved c =
    let here : TakeAway c.args.symbols.now c.args.terms.now c.pivot-item.result c.taken_away.result = rw c.loop-pivot.invariant.0 at c.taken_away.ensures.sides in (
      c.taken_away.ensures.same ∙ c.loop-pivot.invariant.0,
      rw c.in_ok-push.ensures.items
          (zip_more (TakeAway c.args.symbols.now c.args.terms.now) c.args.pivots.now c.loop-pivot.list.items c.loop-pivot.pivot-index
          c.pivot-item.result c.taken_away.result c.loop-pivot-test.true c.loop-pivot.invariant.1 (rw (← c.pivot-item.is) here)),
    )
