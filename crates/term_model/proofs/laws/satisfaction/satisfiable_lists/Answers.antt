use Rattle.term_model.proofs.Satisfaction.{empty_satisfiable, constant_satisfiable, all_true_is}
use Rattle.term_model.proofs.laws.satisfaction.satisfiable_lists.Goals as goal

pub returns-clause-empty : goal.returns-clause-empty
returns-clause-empty c = empty_satisfiable

pub returns-clause-constant : goal.returns-clause-constant
returns-clause-constant c = constant_satisfiable

pub returns-clause-every : goal.returns-clause-every
returns-clause-every c = all_true_is
