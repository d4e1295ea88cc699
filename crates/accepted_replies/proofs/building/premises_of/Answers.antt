use Rattle.std.proofs.Common.{◌∷◌, [], ◌++◌, ◌∙◌, sym, ap}
use Rattle.accepted_replies.proofs.ReplyForm.{numbers_next}
use Rattle.accepted_replies.proofs.building.premises_of.Goals as goal

pub assumes-preserved : goal.assumes-preserved
assumes-preserved c =
    c.in_ok-push-2.ensures.items
    ∙ (ap (λ ks. ks ++ c.assumes.k ∷ []) c.assumes.invariant ∙ ap (λ ks. c.args.count ∷ ks) (sym (numbers_next c.assumes.k)))
