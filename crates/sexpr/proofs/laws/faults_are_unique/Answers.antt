use Rattle.sexpr.proofs.Faults.{formed_has_no_fault, one_fault}
use Rattle.sexpr.proofs.laws.faults_are_unique.Goals as goal

pub returns-clause-none : goal.returns-clause-none
returns-clause-none c = formed_has_no_fault

pub returns-clause-one : goal.returns-clause-one
returns-clause-one c = one_fault
