use Rattle.term_model.proofs.Tables.{let_exchanges}
use Rattle.term_model.proofs.Coincidence.{value_at_unbound}
use Rattle.term_model.proofs.laws.values.lets_bind_in_parallel.Goals as goal

pub returns-clause-exchanged : goal.returns-clause-exchanged
returns-clause-exchanged c = let_exchanges

pub returns-clause-others : goal.returns-clause-others
returns-clause-others c = λ I r bs x n. value_at_unbound I r r bs x n
