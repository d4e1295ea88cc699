use Rattle.term_reader.proofs.ViewsStay.{problem_stays}
use Rattle.term_reader.proofs.view_laws.problems_stay.Goals as goal

pub returns : goal.returns
returns c s z v w p sc adds terms h = problem_stays s z v w adds terms p sc h
