use Rattle.rule_model.specs.Renaming.{IsName}
use Rattle.rule_model.proofs.Renamings.{leads_renamed, contradicts_renamed, follows_renamed}
use Rattle.rule_model.proofs.laws.consequence.renaming_keeps_consequence.Goals as goal

pub returns-clause-follows : goal.returns-clause-follows
returns-clause-follows g c names premises named goal_ named_goal one zs z = follows_renamed (IsName names) one premises named goal_ named_goal zs z

pub returns-clause-trails : goal.returns-clause-trails
returns-clause-trails g c names premises named goal_ named_goal one zs z units last = leads_renamed (IsName names) one premises named goal_ named_goal units last zs z

pub returns-clause-contradictions : goal.returns-clause-contradictions
returns-clause-contradictions g c names goal_ named_goal one z = contradicts_renamed (IsName names) one goal_ named_goal z
