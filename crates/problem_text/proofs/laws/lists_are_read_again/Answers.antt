use Rattle.problem_text.proofs.ReadAgain.{remembered, stand_for_stays}
use Rattle.problem_text.proofs.laws.lists_are_read_again.Goals as goal

pub returns-clause-remembered : goal.returns-clause-remembered
returns-clause-remembered c = remembered

pub returns-clause-stays : goal.returns-clause-stays
returns-clause-stays c = stand_for_stays
