use Rattle.flip_steps.proofs.MemoryLemmas.{forms_later}
use Rattle.flip_steps.proofs.laws.forms_stay.Goals as goal

pub returns : goal.returns
returns c = λ p v w old new forms keeps more. forms_later c.blocks_stay.ensures.link p v w old new keeps more forms
