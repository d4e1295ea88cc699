use Rattle.term_model.proofs.Chains.{equal_chained}
use Rattle.term_model.proofs.laws.operators.connectives_of_many.Goals as goal

pub returns-clause-equal : goal.returns-clause-equal
returns-clause-equal c = equal_chained
