use Rattle.term_model.proofs.Meanings.{equality_is, distinct_is, values_of_list}
use Rattle.term_model.proofs.laws.operators.equalities.Goals as goal

pub returns-clause-equal : goal.returns-clause-equal
returns-clause-equal c = equality_is

pub returns-clause-distinct : goal.returns-clause-distinct
returns-clause-distinct c = distinct_is

pub returns-clause-values : goal.returns-clause-values
returns-clause-values c = values_of_list
