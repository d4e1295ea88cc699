-- Each example by computation.
use Rattle.std.proofs.Common.{refl}
use Rattle.alethe_text.specs.Examples.{first_fault_behind}
use Rattle.alethe_text.proofs.examples.variables_leave_with_their_scope.Goals as goal

pub returns-clause-outside : goal.returns-clause-outside
unfolding first_fault_behind
returns-clause-outside c = refl

pub returns-clause-among : goal.returns-clause-among
unfolding first_fault_behind
returns-clause-among c = refl

pub returns-clause-twice : goal.returns-clause-twice
unfolding first_fault_behind
returns-clause-twice c = refl

pub returns-clause-alone : goal.returns-clause-alone
unfolding first_fault_behind
returns-clause-alone c = refl

pub returns-clause-other_sort : goal.returns-clause-other_sort
unfolding first_fault_behind
returns-clause-other_sort c = refl
