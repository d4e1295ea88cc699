-- By recursion on the commands.
use Rattle.problem_text.proofs.Scripts.{problem-sound}
use Rattle.problem_text.proofs.laws.scripts_are_well_sorted.Goals as goal

pub returns : goal.returns
returns c = problem-sound
