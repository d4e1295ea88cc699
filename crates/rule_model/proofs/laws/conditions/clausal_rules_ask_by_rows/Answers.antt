use Rattle.rule_model.proofs.ConditionLaws.{clausal_asks}
use Rattle.rule_model.proofs.laws.conditions.clausal_rules_ask_by_rows.Goals as goal

pub returns : goal.returns
returns c j is = clausal_asks j.rule j is
