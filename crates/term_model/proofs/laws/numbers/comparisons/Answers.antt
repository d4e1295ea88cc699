use Rattle.term_model.proofs.Chains.{less_eq_is, less_is}
use Rattle.term_model.proofs.laws.numbers.comparisons.Goals as goal

pub returns-clause-at_most : goal.returns-clause-at_most
returns-clause-at_most c = less_eq_is

pub returns-clause-below : goal.returns-clause-below
returns-clause-below c = less_is
