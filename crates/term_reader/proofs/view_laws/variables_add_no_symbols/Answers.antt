-- A variable is a leaf that is no function.
use Rattle.term_reader.proofs.Staying.{adds_variable}
use Rattle.term_reader.proofs.view_laws.variables_add_no_symbols.Goals as goal

pub returns : goal.returns
returns c = adds_variable
