-- The scope around a scope is that of the step that closes it.
use Rattle.std.proofs.Common.{arith}
use Rattle.rule_model.specs.Scopes.{outermost}
use Rattle.rule_model.proofs.Numbers.{scopes_in_count}
use Rattle.rule_model.proofs.Tree.{scope_closed}
use Rattle.rule_model.proofs.laws.scopes.scopes_are_a_tree.Goals as goal

pub returns-clause-count : goal.returns-clause-count
returns-clause-count c proof = let n = scopes_in_count outermost proof in omega arith

pub returns-clause-parent : goal.returns-clause-parent
returns-clause-parent c proof k h l = let s = scope_closed proof k h l in (_, s.3, s.4)
