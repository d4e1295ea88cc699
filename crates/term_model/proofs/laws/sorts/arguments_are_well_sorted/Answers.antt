use Rattle.term_model.proofs.Sorting.{operation_parts, call_parts}
use Rattle.term_model.proofs.laws.sorts.arguments_are_well_sorted.Goals as goal

pub returns-clause-operation : goal.returns-clause-operation
returns-clause-operation c = operation_parts

pub returns-clause-call : goal.returns-clause-call
returns-clause-call c = call_parts
