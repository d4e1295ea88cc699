use Rattle.rule_model.proofs.RuleKinds.{holes_listed}
use Rattle.rule_model.proofs.laws.rules.holes_are_listed.Goals as goal

pub returns : goal.returns
returns c = holes_listed
