use Rattle.term_model.proofs.Sorting.{value_has_sort, values_have_sorts, all_bound_fit}
use Rattle.term_model.proofs.laws.sorts.values_have_sorts.Goals as goal

pub returns-clause-term : goal.returns-clause-term
returns-clause-term c = λ I r t s fits h. value_has_sort I r fits t s h

pub returns-clause-arguments : goal.returns-clause-arguments
returns-clause-arguments c = λ I r ts ss fits h. values_have_sorts I r fits ts ss h

pub returns-clause-bindings : goal.returns-clause-bindings
returns-clause-bindings c = all_bound_fit
