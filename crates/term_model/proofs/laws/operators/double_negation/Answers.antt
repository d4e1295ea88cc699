use Rattle.term_model.proofs.Meanings.{double_negation_truth, double_negation_value}
use Rattle.term_model.proofs.laws.operators.double_negation.Goals as goal

pub returns-clause-truth : goal.returns-clause-truth
returns-clause-truth c = double_negation_truth

pub returns-clause-value : goal.returns-clause-value
returns-clause-value c = double_negation_value
