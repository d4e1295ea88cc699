-- By recursion on the form of the term.
use Rattle.problem_text.proofs.Scripts.{read-sound}
use Rattle.problem_text.proofs.laws.terms_are_well_sorted.Goals as goal

pub returns-clause-term : goal.returns-clause-term
returns-clause-term c i p s sorted sound = (read-sound i p s sorted sound).1

pub returns-clause-script : goal.returns-clause-script
returns-clause-script c i p s sorted sound = (read-sound i p s sorted sound).0
