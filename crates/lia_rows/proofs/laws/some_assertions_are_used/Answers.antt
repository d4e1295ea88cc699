-- A combination of nothing adds up to nothing.
use Rattle.lia_rows.proofs.Assertions.{some_used, few_used}
use Rattle.lia_rows.proofs.laws.some_assertions_are_used.Goals as goal

pub returns-clause-some : goal.returns-clause-some
returns-clause-some c = some_used

pub returns-clause-few : goal.returns-clause-few
returns-clause-few c = few_used
