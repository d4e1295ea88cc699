use Rattle.sexpr.proofs.OneNesting.{one_item, one_text}
use Rattle.sexpr.proofs.laws.items_are_unique.Goals as goal

pub returns-clause-item : goal.returns-clause-item
returns-clause-item c = one_item

pub returns-clause-text : goal.returns-clause-text
returns-clause-text c = one_text
