use Rattle.term_names.proofs.Meant.{macro_head}
use Rattle.term_names.proofs.looking_up.head_of.Goals as goal

pub returns-in-Macro-clause-means : goal.returns-in-Macro-clause-means
returns-in-Macro-clause-means c = λ w k p m found. macro_head w k p m c.in-Macro.which (rw c.in-Macro.is at found)
