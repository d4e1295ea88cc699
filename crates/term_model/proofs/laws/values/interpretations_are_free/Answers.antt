use Rattle.term_model.proofs.Existence.{two_results}
use Rattle.term_model.proofs.laws.values.interpretations_are_free.Goals as goal

pub returns : goal.returns
returns c = two_results
