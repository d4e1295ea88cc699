use Rattle.term_model.proofs.Sorting.{bool_value, int_value, declared_value, some_value_fits, have_sorts_length, have_sorts_each}
use Rattle.term_model.proofs.laws.sorts.sorts_have_values.Goals as goal

pub returns-clause-bool : goal.returns-clause-bool
returns-clause-bool c = bool_value

pub returns-clause-int : goal.returns-clause-int
returns-clause-int c = int_value

pub returns-clause-declared : goal.returns-clause-declared
returns-clause-declared c = declared_value

pub returns-clause-some : goal.returns-clause-some
returns-clause-some c = some_value_fits

pub returns-clause-as_many : goal.returns-clause-as_many
returns-clause-as_many c = have_sorts_length

pub returns-clause-each : goal.returns-clause-each
returns-clause-each c = have_sorts_each
