use Rattle.rule_model.proofs.StrictConditions.{step_met, command_met, status_met, statuses_met, valid_met}
use Rattle.rule_model.proofs.laws.strict.strictly_met_is_met.Goals as goal

pub returns-clause-step : goal.returns-clause-step
returns-clause-step c j met = step_met j met

pub returns-clause-command : goal.returns-clause-command
returns-clause-command c proof i met = command_met proof i met

pub returns-clause-status : goal.returns-clause-status
returns-clause-status c checking proof i status passes is = status_met checking proof i status passes is

pub returns-clause-statuses : goal.returns-clause-statuses
returns-clause-statuses c checking proof statuses all are = statuses_met checking proof statuses all are

pub returns-clause-valid : goal.returns-clause-valid
returns-clause-valid c checking proof statuses valid are = valid_met checking proof statuses valid are
