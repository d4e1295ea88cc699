use Rattle.std.proofs.Common.{◌∙◌, ◌++◌, ap₂, sym}
use Rattle.verdict_merge.proofs.Joining.{next, whole}
use Rattle.judged_texts.proofs.judging.joined.Goals as goal

pub pieces-preserved : goal.pieces-preserved
pieces-preserved c =
    c.in_ok-extend_from_slice.ensures.items ∙ ap₂ (λ done more. done ++ more) c.pieces.invariant c.deref.ensures.value
    ∙ sym (next _ _ _ c.pieces-test.true c.piece-item.is)

pub returns : goal.returns
returns c = c.pieces.invariant ∙ whole _ _ c.pieces-test.false
