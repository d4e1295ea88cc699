use Rattle.std.proofs.Common.{◌≡◌, refl, pos, ap}
use Rattle.term_model.specs.Meaning.{value}
use Rattle.term_model.specs.Operators.{quotient, remainder}
use Rattle.term_model.specs.Values.{whole, as_whole}
use Rattle.term_model.proofs.Division.{divided, only_division}
use Rattle.term_model.proofs.laws.numbers.division.Goals as goal

pub returns-clause-values : goal.returns-clause-values
returns-clause-values c I r s t = divided (as_whole (value I r s)) (as_whole (value I r t))

pub returns-clause-only : goal.returns-clause-only
returns-clause-only c = only_division

pub returns-clause-by_zero : goal.returns-clause-by_zero
returns-clause-by_zero c I r s t e = (ap (λ n. whole (quotient (as_whole (value I r s)) n)) e, ap (λ n. whole (remainder (as_whole (value I r s)) n)) e)
