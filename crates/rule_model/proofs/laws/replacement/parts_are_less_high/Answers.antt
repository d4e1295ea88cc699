use Rattle.rule_model.proofs.HeightLaws.{least_height, operation_higher, call_higher, bound_higher}
use Rattle.rule_model.proofs.laws.replacement.parts_are_less_high.Goals as goal
use Rattle.term_model.proofs.HeightLaws.{body_lower}

pub returns-clause-least : goal.returns-clause-least
returns-clause-least c = least_height

pub returns-clause-operation : goal.returns-clause-operation
returns-clause-operation c = operation_higher

pub returns-clause-call : goal.returns-clause-call
returns-clause-call c = call_higher

pub returns-clause-bound : goal.returns-clause-bound
returns-clause-bound c = bound_higher

pub returns-clause-body : goal.returns-clause-body
returns-clause-body c = body_lower
