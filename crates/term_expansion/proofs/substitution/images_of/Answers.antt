use Rattle.std.proofs.Common.{arith, ◌≡◌, length, drop, length-drop}
use Rattle.term_expansion.specs.declared.values.Bound.{Bound}
use Rattle.term_expansion.proofs.Images.{images_start, images_more, drop-at}
use Rattle.term_expansion.proofs.substitution.images_of.Goals as goal

pub bounds-init : goal.bounds-init
bounds-init c = (
  omega arith,
  λ s v q table h.
      let none : length (drop (length c.args.replacement.now) c.args.replacement.now) ≡ 0 = omega (arith, length-drop {A = Bound}) in
      images_start s v c.new-images.result _ q c.new-images.ensures.empty none h,
)

pub bounds-preserved : goal.bounds-preserved
bounds-preserved c = (
  let within = c.bounds.invariant.0 in omega arith,
  λ s v q table h.
      images_more s v table c.bounds.images c.put_image.new.images c.index-replacement-at.result (drop c.bounds.at c.args.replacement.now)
      c.in_ok-put_image.ensures.here c.in_ok-put_image.ensures.others (λ p k. c.bounds.invariant.1 s v p table k) q
      (rw (drop-at c.args.replacement.now c.bounds.at c.index-replacement-at.result c.bounds-test.true c.bounds.invariant.0 c.index-replacement-at.is) at h),
)
