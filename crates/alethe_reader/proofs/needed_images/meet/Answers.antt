-- A set that gets a number stays the same, or has it last.
use Rattle.contexts.proofs.Sets.{noted_is}
use Rattle.alethe_reader.proofs.needed_images.meet.Goals as goal

pub returns-clause-met : goal.returns-clause-met
returns-clause-met c = noted_is _ _ _ _ _ c.number.ensures.number c.in_ok-new.ensures.added c.in_ok-new.ensures.keys
