use Rattle.term_pool.proofs.HeightLemmas.{argument_less, value_less}
use Rattle.term_pool.proofs.laws.parts_are_less_high.Goals as goal
use Rattle.term_model.proofs.HeightLaws.{body_lower}

pub returns-clause-argument : goal.returns-clause-argument
returns-clause-argument c = argument_less

pub returns-clause-value : goal.returns-clause-value
returns-clause-value c = value_less

pub returns-clause-body : goal.returns-clause-body
returns-clause-body c = body_lower
