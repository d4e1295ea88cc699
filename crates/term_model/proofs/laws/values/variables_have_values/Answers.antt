use Rattle.term_model.proofs.Sorting.{value_at_fits}
use Rattle.term_model.proofs.Tables.{value_at_here, value_at_later}
use Rattle.term_model.proofs.laws.values.variables_have_values.Goals as goal

pub returns-clause-innermost : goal.returns-clause-innermost
returns-clause-innermost c = value_at_here

pub returns-clause-others : goal.returns-clause-others
returns-clause-others c = value_at_later

pub returns-clause-sort : goal.returns-clause-sort
returns-clause-sort c = value_at_fits
