use Rattle.question_cells.proofs.Negations.{negations}
use Rattle.question_cells.proofs.laws.negations_add_two_cells.Goals as goal

pub returns : goal.returns
returns c = negations
