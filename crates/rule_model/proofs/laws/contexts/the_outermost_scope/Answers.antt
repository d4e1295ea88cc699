use Rattle.rule_model.proofs.ContextLaws.{outermost_clause, outermost_empty}
use Rattle.rule_model.proofs.laws.contexts.the_outermost_scope.Goals as goal

pub returns-clause-clause : goal.returns-clause-clause
returns-clause-clause c = outermost_clause

pub returns-clause-empty : goal.returns-clause-empty
returns-clause-empty c = outermost_empty
