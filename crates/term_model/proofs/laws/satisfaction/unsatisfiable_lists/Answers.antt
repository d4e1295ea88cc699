use Rattle.term_model.proofs.Satisfaction.{unsatisfiable_fails, unsatisfiable_more, contradiction}
use Rattle.term_model.proofs.laws.satisfaction.unsatisfiable_lists.Goals as goal

pub returns-clause-fails : goal.returns-clause-fails
returns-clause-fails c = unsatisfiable_fails

pub returns-clause-more : goal.returns-clause-more
returns-clause-more c = unsatisfiable_more

pub returns-clause-contradiction : goal.returns-clause-contradiction
returns-clause-contradiction c = contradiction
