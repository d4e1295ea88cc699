-- Each example by computation.
use Rattle.std.proofs.Common.{refl}
use Rattle.alethe_text.specs.Examples.{first_fault_behind}
use Rattle.alethe_text.proofs.examples.anchors_are_judged_by_places.Goals as goal

pub returns-clause-one_item : goal.returns-clause-one_item
unfolding first_fault_behind
returns-clause-one_item c = refl

pub returns-clause-other_head : goal.returns-clause-other_head
unfolding first_fault_behind
returns-clause-other_head c = refl

pub returns-clause-out_of_place : goal.returns-clause-out_of_place
unfolding first_fault_behind
returns-clause-out_of_place c = refl

pub returns-clause-again : goal.returns-clause-again
unfolding first_fault_behind
returns-clause-again c = refl

pub returns-clause-no_step : goal.returns-clause-no_step
unfolding first_fault_behind
returns-clause-no_step c = refl

pub returns-clause-arguments_first : goal.returns-clause-arguments_first
unfolding first_fault_behind
returns-clause-arguments_first c = refl

pub returns-clause-no_list : goal.returns-clause-no_list
unfolding first_fault_behind
returns-clause-no_list c = refl
