-- By the step that closes the scope.
use Rattle.rule_model.proofs.Tree.{scope_closed}
use Rattle.rule_model.proofs.laws.scopes.scopes_are_closed.Goals as goal

pub returns : goal.returns
returns c proof k h l = let s = scope_closed proof k h l in (s.0, s.1, s.2, s.3)
