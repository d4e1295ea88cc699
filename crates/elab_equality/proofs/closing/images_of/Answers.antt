use Rattle.std.proofs.Common.{◌∙◌, ◌∷◌, [], ◌++◌, ap, sym}
use Rattle.elab_equality.proofs.ClosingLemmas.{images_more}
use Rattle.elab_equality.proofs.closing.images_of.Goals as goal

pub each-preserved : goal.each-preserved
each-preserved c =
    c.in_ok-push.ensures.items
    ∙ (ap (λ xs. xs ++ c.bound-item.result.1 ∷ []) c.each.invariant ∙ sym (images_more c.args.anchor.now c.each.bound-index c.bound-item.result c.each-test.true c.bound-item.is))
