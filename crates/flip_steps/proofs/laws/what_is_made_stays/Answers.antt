use Rattle.flip_steps.proofs.OrderLemmas.{made_from_later, made_to_join_later}
use Rattle.flip_steps.proofs.laws.what_is_made_stays.Goals as goal

pub returns-clause-from : goal.returns-clause-from
returns-clause-from c = λ s v w root x grows. made_from_later s v w grows root x

pub returns-clause-join : goal.returns-clause-join
returns-clause-join c = λ s v w a b x grows. made_to_join_later s v w grows a b x
