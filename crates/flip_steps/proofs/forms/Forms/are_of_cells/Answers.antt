use Rattle.flip_steps.proofs.CellLemmas.{few_cells}
use Rattle.flip_steps.proofs.forms.Forms.are_of_cells.Goals as goal

pub returns : goal.returns
returns c = λ s v roots trees n table one parts.
    few_cells c.trees_of_terms.ensures.one_tree s v c.args.self.now c.len-count.ensures.unique table one parts roots trees n
