-- Each example by computation.
use Rattle.std.proofs.Common.{refl}
use Rattle.alethe_text.specs.Examples.{first_fault_behind, proof_behind}
use Rattle.alethe_text.proofs.examples.commands_are_judged_in_order.Goals as goal

pub returns-clause-empty : goal.returns-clause-empty
unfolding proof_behind
returns-clause-empty c = refl

pub returns-clause-answered : goal.returns-clause-answered
unfolding proof_behind
returns-clause-answered c = refl

pub returns-clause-in_a_list : goal.returns-clause-in_a_list
unfolding first_fault_behind
returns-clause-in_a_list c = refl

pub returns-clause-word_first : goal.returns-clause-word_first
unfolding first_fault_behind
returns-clause-word_first c = refl

pub returns-clause-shape_first : goal.returns-clause-shape_first
unfolding first_fault_behind
returns-clause-shape_first c = refl

pub returns-clause-no_rule : goal.returns-clause-no_rule
unfolding first_fault_behind
returns-clause-no_rule c = refl

pub returns-clause-no_value : goal.returns-clause-no_value
unfolding first_fault_behind
returns-clause-no_value c = refl

pub returns-clause-outermost : goal.returns-clause-outermost
unfolding first_fault_behind
returns-clause-outermost c = refl
