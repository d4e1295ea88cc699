use Rattle.rule_model.proofs.ContextLaws.{images_closed, images_sorted, images_bind}
use Rattle.rule_model.proofs.laws.contexts.images_are_closed.Goals as goal

pub returns-clause-closed : goal.returns-clause-closed
returns-clause-closed c = images_closed

pub returns-clause-sorts : goal.returns-clause-sorts
returns-clause-sorts c = images_sorted

pub returns-clause-bound : goal.returns-clause-bound
returns-clause-bound c = images_bind
