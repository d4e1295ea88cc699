use Rattle.term_model.proofs.Tests.{sort_eq_decides, var_eq_decides, value_eq_decides, sorts_eq_decides, values_eq_decides}
use Rattle.term_model.proofs.laws.values.equality_is_decided.Goals as goal

pub returns-clause-sorts : goal.returns-clause-sorts
returns-clause-sorts c = sort_eq_decides

pub returns-clause-variables : goal.returns-clause-variables
returns-clause-variables c = var_eq_decides

pub returns-clause-values : goal.returns-clause-values
returns-clause-values c = value_eq_decides

pub returns-clause-sort_lists : goal.returns-clause-sort_lists
returns-clause-sort_lists c = sorts_eq_decides

pub returns-clause-value_lists : goal.returns-clause-value_lists
returns-clause-value_lists c = values_eq_decides
