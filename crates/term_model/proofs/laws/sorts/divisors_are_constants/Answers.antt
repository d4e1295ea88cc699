use Rattle.term_model.proofs.Divisors.{divisor_decides, divided_terms, other_operations, operation_sorts}
use Rattle.term_model.proofs.laws.sorts.divisors_are_constants.Goals as goal

pub returns-clause-by : goal.returns-clause-by
returns-clause-by c = divisor_decides

pub returns-clause-of : goal.returns-clause-of
returns-clause-of c = divided_terms

pub returns-clause-others : goal.returns-clause-others
returns-clause-others c = other_operations

pub returns-clause-same : goal.returns-clause-same
returns-clause-same c = operation_sorts
