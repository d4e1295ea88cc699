use Rattle.term_model.proofs.Sorting.{one_sort, well_sorted_sort, one_list}
use Rattle.term_model.proofs.laws.sorts.terms_have_one_sort.Goals as goal

pub returns-clause-term : goal.returns-clause-term
returns-clause-term c = one_sort

pub returns-clause-well_sorted : goal.returns-clause-well_sorted
returns-clause-well_sorted c = well_sorted_sort

pub returns-clause-arguments : goal.returns-clause-arguments
returns-clause-arguments c = one_list
