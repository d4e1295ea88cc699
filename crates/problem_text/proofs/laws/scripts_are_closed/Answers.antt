-- By recursion on the commands.
use Rattle.problem_text.proofs.ScopedScripts.{problem-scoped}
use Rattle.problem_text.proofs.laws.scripts_are_closed.Goals as goal

pub returns : goal.returns
returns c = problem-scoped
