use Rattle.rule_model.proofs.ConditionLaws.{met_keeps}
use Rattle.rule_model.proofs.laws.conditions.conditions_keep_truth.Goals as goal

pub returns : goal.returns
returns c j met I r sorted = met_keeps I r j met sorted
