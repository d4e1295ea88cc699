use Rattle.term_model.proofs.Meanings.{choice_then, choice_else}
use Rattle.term_model.proofs.laws.operators.choices.Goals as goal

pub returns-clause-then_branch : goal.returns-clause-then_branch
returns-clause-then_branch c = choice_then

pub returns-clause-else_branch : goal.returns-clause-else_branch
returns-clause-else_branch c = choice_else
