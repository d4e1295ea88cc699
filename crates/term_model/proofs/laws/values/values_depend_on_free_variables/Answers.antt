use Rattle.term_model.proofs.Coincidence.{value_coincides, value_closed}
use Rattle.term_model.proofs.laws.values.values_depend_on_free_variables.Goals as goal

pub returns-clause-coincidence : goal.returns-clause-coincidence
returns-clause-coincidence c = value_coincides

pub returns-clause-closed : goal.returns-clause-closed
returns-clause-closed c = value_closed
