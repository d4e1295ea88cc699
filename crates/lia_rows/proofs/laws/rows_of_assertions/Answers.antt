-- By their definition.
use Rattle.lia_rows.proofs.Assertions.{same_rows, all_rows, all_there}
use Rattle.lia_rows.proofs.laws.rows_of_assertions.Goals as goal

pub returns-clause-one : goal.returns-clause-one
returns-clause-one c = same_rows

pub returns-clause-rows : goal.returns-clause-rows
returns-clause-rows c = all_rows

pub returns-clause-assertions : goal.returns-clause-assertions
returns-clause-assertions c = all_there
