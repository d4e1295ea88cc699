use Rattle.flip_steps.proofs.LikeLemmas.{made_from_like, made_to_join_like}
use Rattle.flip_steps.proofs.laws.what_is_made_is_like_its_terms.Goals as goal

pub returns-clause-from : goal.returns-clause-from
returns-clause-from c = made_from_like

pub returns-clause-join : goal.returns-clause-join
returns-clause-join c = made_to_join_like
