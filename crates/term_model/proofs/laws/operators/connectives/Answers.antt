use Rattle.term_model.proofs.Meanings.{negation_is, conjunction_is, disjunction_is, implication_is, exclusive_is}
use Rattle.term_model.proofs.laws.operators.connectives.Goals as goal

pub returns-clause-negation : goal.returns-clause-negation
returns-clause-negation c = negation_is

pub returns-clause-conjunction : goal.returns-clause-conjunction
returns-clause-conjunction c = conjunction_is

pub returns-clause-disjunction : goal.returns-clause-disjunction
returns-clause-disjunction c = disjunction_is

pub returns-clause-implication : goal.returns-clause-implication
returns-clause-implication c = implication_is

pub returns-clause-exclusive : goal.returns-clause-exclusive
returns-clause-exclusive c = exclusive_is
