-- By recursion on the commands.
use Rattle.alethe_text.proofs.WellFormed.{text_formed}
use Rattle.alethe_text.proofs.laws.proofs_are_well_formed.Goals as goal

pub returns : goal.returns
returns c = text_formed c.tokens_are_spelled.ensures.spelled
