use Rattle.term_model.proofs.Arities.{constants_sort, negation_sort, one_or_more_sort, two_or_more_sort, equality_sort, choice_sort_of, arithmetic_sort, division_sort, comparison_sort}
use Rattle.term_model.proofs.laws.sorts.operators_have_arities.Goals as goal

pub returns-clause-constants : goal.returns-clause-constants
returns-clause-constants c = constants_sort

pub returns-clause-negation : goal.returns-clause-negation
returns-clause-negation c = negation_sort

pub returns-clause-choice : goal.returns-clause-choice
returns-clause-choice c = choice_sort_of

pub returns-clause-one_or_more : goal.returns-clause-one_or_more
returns-clause-one_or_more c = one_or_more_sort

pub returns-clause-two_or_more : goal.returns-clause-two_or_more
returns-clause-two_or_more c = two_or_more_sort

pub returns-clause-equality : goal.returns-clause-equality
returns-clause-equality c = equality_sort

pub returns-clause-arithmetic : goal.returns-clause-arithmetic
returns-clause-arithmetic c = arithmetic_sort

pub returns-clause-comparison : goal.returns-clause-comparison
returns-clause-comparison c = comparison_sort

pub returns-clause-division : goal.returns-clause-division
returns-clause-division c = division_sort
