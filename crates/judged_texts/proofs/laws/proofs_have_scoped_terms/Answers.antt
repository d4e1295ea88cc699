-- By recursion on the commands.
use Rattle.judged_texts.proofs.ScopedProofs.{text_scoped}
use Rattle.judged_texts.proofs.laws.proofs_have_scoped_terms.Goals as goal

pub returns : goal.returns
returns c = text_scoped
