use Rattle.rule_model.proofs.RuleKinds.{met_judged, closing_judged}
use Rattle.rule_model.proofs.laws.rules.only_judged_rules_are_met.Goals as goal

pub returns-clause-met : goal.returns-clause-met
returns-clause-met c j met = met_judged j.rule j met

pub returns-clause-closing : goal.returns-clause-closing
returns-clause-closing c = closing_judged
