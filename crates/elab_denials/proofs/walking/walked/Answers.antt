use Rattle.std.proofs.Common.{◌+◌, [], ◌∷◌, length, sym, ap, ◌∙◌, arith, length-append}
use Rattle.elab_denials.proofs.WalkLemmas.{trail_next, way_splits}
use Rattle.elab_denials.proofs.walking.walked.Goals as goal

pub pair_over-pair-requires : goal.pair_over-pair-requires
pair_over-pair-requires c =
    let below = c.loop-place-test.true in
    let used = c.used_at-used.result in
    let step = way_splits c.args.sides.now c.args.way.now c.loop-place.last c.args.ends.1 c.loop-place.place used below (sym (c.used_at-used.ensures.is used))
    c.loop-place.invariant.3 in
    record { next = step.0; leads = step.1 }

pub loop-place-preserved : goal.loop-place-preserved
loop-place-preserved c =
    let inv = c.loop-place.invariant in
    let below = c.loop-place-test.true in
    let used = c.used_at-used.result in
    let pair = c.pair_over-pair.result in
    let pairs = c.loop-place.trail.pairs.items in
    let step = trail_next c.args.sides.now c.args.way.now c.args.ends.0 c.loop-place.last c.args.ends.1 c.loop-place.place used pair
    c.loop-place.trail.refs.items pairs below (sym (c.used_at-used.ensures.is used)) c.pair_over-pair.ensures inv.2 inv.3 in (
      omega (arith, below),
      ap length c.in_ok-push-2.ensures.items ∙ (length-append pairs (pair ∷ []) ∙ ap (λ n. n + 1) inv.1),
      rw (c.in_ok-push-2.ensures.items, c.in_ok-push-3.ensures.items, c.sides-next.ensures) step.0,
      rw c.sides-next.ensures step.1,
    )
