use Rattle.std.proofs.Common.{inl}
use Rattle.term_model.proofs.Coincidence.{free_among_is, binds_is, free_bound_is, bound_not_free}
use Rattle.term_model.proofs.laws.values.variables_stand_free.Goals as goal

pub returns-clause-outside : goal.returns-clause-outside
returns-clause-outside c = λ x bs t h. inl ((free_bound_is x bs).1 h)

pub returns-clause-bound : goal.returns-clause-bound
returns-clause-bound c = bound_not_free

pub returns-clause-operation : goal.returns-clause-operation
returns-clause-operation c = λ x op ts. free_among_is x ts

pub returns-clause-call : goal.returns-clause-call
returns-clause-call c = λ x f ts. free_among_is x ts

pub returns-clause-binds : goal.returns-clause-binds
returns-clause-binds c = binds_is
