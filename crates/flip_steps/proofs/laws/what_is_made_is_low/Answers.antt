use Rattle.flip_steps.proofs.HeightLemmas.{made_from_low, made_to_join_low}
use Rattle.flip_steps.proofs.laws.what_is_made_is_low.Goals as goal

pub returns-clause-from : goal.returns-clause-from
returns-clause-from c = made_from_low

pub returns-clause-join : goal.returns-clause-join
returns-clause-join c = made_to_join_low
