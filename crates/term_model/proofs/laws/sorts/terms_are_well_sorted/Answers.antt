use Rattle.term_model.proofs.Sorting.{call_is_of}
use Rattle.term_model.proofs.laws.sorts.terms_are_well_sorted.Goals as goal

pub returns-clause-call : goal.returns-clause-call
returns-clause-call c = call_is_of
