-- A name of a length that no operator's symbol has names none.
use Rattle.term_names.proofs.Operators.{none_named}
use Rattle.term_names.proofs.words.operator_of.Goals as goal

pub returns-in_default-30 : goal.returns-in_default-30
returns-in_default-30 c = none_named c.args.name.now c.in_default.len_at_least c.in_default.len_below
