use Rattle.rule_model.proofs.RuleWords.{rule_is_judged}
use Rattle.rule_model.proofs.laws.rules.known_rules_are_judged.Goals as goal

pub returns : goal.returns
returns c = rule_is_judged
