use Rattle.rule_model.proofs.Substituting.{free_in_result, result_closed}
use Rattle.rule_model.proofs.laws.substitution.other_variables_stay_free.Goals as goal

pub returns-clause-free : goal.returns-clause-free
returns-clause-free c = free_in_result

pub returns-clause-closed : goal.returns-clause-closed
returns-clause-closed c = result_closed
