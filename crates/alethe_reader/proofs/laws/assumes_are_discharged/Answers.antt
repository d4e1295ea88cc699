-- What stands behind the ids of the scopes around are those of the scope's own commands.
use Rattle.alethe_reader.proofs.IdsInUse.{own_discharged, outer_discharged, none_discharged}
use Rattle.alethe_reader.proofs.laws.assumes_are_discharged.Goals as goal

pub returns-clause-own : goal.returns-clause-own
returns-clause-own c = own_discharged

pub returns-clause-outer : goal.returns-clause-outer
returns-clause-outer c = outer_discharged

pub returns-clause-unused : goal.returns-clause-unused
returns-clause-unused c = none_discharged
