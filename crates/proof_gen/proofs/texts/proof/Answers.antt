use Rattle.proof_gen.proofs.WholeTexts.{proof_by_parts}
use Rattle.proof_gen.proofs.texts.proof.Goals as goal

pub returns : goal.returns
returns c = proof_by_parts c.args.n c.block.ensures c.new-text.ensures.items c.in_ok-push_each_filled.ensures c.in_ok-push_numbered.ensures
    c.in_ok-push_numbered-2.ensures c.in_ok-push_each_numbered.ensures c.in_ok-push_numbered-3.ensures c.in_ok-extend_from_slice.ensures.items
