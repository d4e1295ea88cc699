-- By the words of the definition.
use Rattle.alethe_reader.proofs.IdsInUse.{ids_assume, ids_step, ids_open, ids_close}
use Rattle.alethe_reader.proofs.laws.ids_follow_the_proof.Goals as goal

pub returns-clause-assume : goal.returns-clause-assume
returns-clause-assume c = ids_assume

pub returns-clause-step : goal.returns-clause-step
returns-clause-step c = ids_step

pub returns-clause-anchor : goal.returns-clause-anchor
returns-clause-anchor c = ids_open

pub returns-clause-closing : goal.returns-clause-closing
returns-clause-closing c = ids_close
