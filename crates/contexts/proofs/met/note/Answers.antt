use Rattle.contexts.proofs.Sets.{noted_is}
use Rattle.contexts.proofs.met.note.Goals as goal

pub returns-clause-noted : goal.returns-clause-noted
returns-clause-noted c = noted_is _ _ _ _ _ c.number.ensures.number c.in_ok-new.ensures.added c.in_ok-new.ensures.keys
