-- By the command.
use Rattle.alethe_text.specs.ProofTexts.{performed}
use Rattle.alethe_reader.proofs.performing.perform.Goals as goal

pub returns-in-Assume-clause-read : goal.returns-in-Assume-clause-read
unfolding performed
returns-in-Assume-clause-read c p session = rw c.in-Assume.is (c.read_assume.ensures.read _ p session)

pub returns-in-Step-clause-read : goal.returns-in-Step-clause-read
unfolding performed
returns-in-Step-clause-read c p session = rw c.in-Step.is (c.read_step.ensures.read p session)

pub returns-in-Anchor-clause-read : goal.returns-in-Anchor-clause-read
unfolding performed
returns-in-Anchor-clause-read c p session = rw c.in-Anchor.is (c.read_anchor.ensures.read _ p session)
