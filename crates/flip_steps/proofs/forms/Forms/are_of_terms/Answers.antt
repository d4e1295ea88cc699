use Rattle.flip_steps.proofs.CellLemmas.{different_terms}
use Rattle.flip_steps.proofs.forms.Forms.are_of_terms.Goals as goal

pub returns : goal.returns
returns c = λ s v roots ts table one. different_terms s v c.args.self.now c.len-count.ensures.unique table one roots ts
