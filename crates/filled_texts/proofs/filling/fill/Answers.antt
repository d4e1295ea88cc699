use Rattle.filled_texts.proofs.Ends.{in_order}
use Rattle.filled_texts.proofs.filling.fill.Goals as goal

pub returns-clause-asks : goal.returns-clause-asks
returns-clause-asks g c =
    let t = c.args.to_fill.now in
    in_order t.texts.problem.now t.texts.options t.texts.proof.now t.most_bits t.most_bits _ _ c.fill_within.result c.fill_within.ensures
