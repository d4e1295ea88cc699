-- By recursion on the commands.
use Rattle.problem_text.proofs.LetFree.{problem-free}
use Rattle.problem_text.proofs.laws.replaced_lets_are_gone.Goals as goal

pub returns : goal.returns
returns c = problem-free
