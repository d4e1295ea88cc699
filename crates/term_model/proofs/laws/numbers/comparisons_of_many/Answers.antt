use Rattle.term_model.proofs.Chains.{less_eq_chained, less_chained, greater_eq_chained, greater_chained}
use Rattle.term_model.proofs.laws.numbers.comparisons_of_many.Goals as goal

pub returns-clause-less_eq : goal.returns-clause-less_eq
returns-clause-less_eq c = less_eq_chained

pub returns-clause-less : goal.returns-clause-less
returns-clause-less c = less_chained

pub returns-clause-greater_eq : goal.returns-clause-greater_eq
returns-clause-greater_eq c = greater_eq_chained

pub returns-clause-greater : goal.returns-clause-greater
returns-clause-greater c = greater_chained
