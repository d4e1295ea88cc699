use Rattle.term_model.proofs.Arities.{call_sort_of}
use Rattle.term_model.proofs.laws.sorts.functions_have_arities.Goals as goal

pub returns : goal.returns
returns c = call_sort_of
