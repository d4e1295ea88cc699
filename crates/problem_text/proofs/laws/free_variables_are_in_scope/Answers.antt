-- By recursion on the form of the term.
use Rattle.problem_text.proofs.ScopedScripts.{term-scoped, script-scoped}
use Rattle.problem_text.proofs.laws.free_variables_are_in_scope.Goals as goal

pub returns-clause-term : goal.returns-clause-term
returns-clause-term c = term-scoped

pub returns-clause-script : goal.returns-clause-script
returns-clause-script c = script-scoped
