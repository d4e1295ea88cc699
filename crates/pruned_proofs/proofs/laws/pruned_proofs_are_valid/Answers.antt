-- Command by command.
use Rattle.pruned_proofs.proofs.Passing.{all_ok, are_ok, left_valid}
use Rattle.pruned_proofs.proofs.laws.pruned_proofs_are_valid.Goals as goal

pub returns-clause-statuses : goal.returns-clause-statuses
returns-clause-statuses c d proof statuses e marks numbers check formed are valid first reached core =
    are_ok d proof formed e first.within first.scope marks reached check numbers core (all_ok d proof statuses are valid)

pub returns-clause-valid : goal.returns-clause-valid
returns-clause-valid c proof e marks formed first reached = left_valid proof e marks formed first reached
