-- By the numbers of the commands around a scope and in it.
use Rattle.rule_model.proofs.ScopeRanges.{together}
use Rattle.rule_model.proofs.laws.scopes.scopes_stand_together.Goals as goal

pub returns : goal.returns
returns c = together
