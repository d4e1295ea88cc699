use Rattle.problem_text.proofs.OtherLimits.{term_within}
use Rattle.problem_text.proofs.laws.terms_are_read_alike_within_limits.Goals as goal

pub returns : goal.returns
returns c = term_within
