-- Each example by computation.
use Rattle.std.proofs.Common.{refl}
use Rattle.problem_text.specs.Examples.{first_fault, assertions_in}
use Rattle.problem_text.proofs.examples.names_stand_for_terms.Goals as goal

pub returns-clause-named : goal.returns-clause-named
unfolding first_fault assertions_in
returns-clause-named c = refl

pub returns-clause-too_soon : goal.returns-clause-too_soon
unfolding first_fault assertions_in
returns-clause-too_soon c = refl

pub returns-clause-out_of_scope : goal.returns-clause-out_of_scope
unfolding first_fault assertions_in
returns-clause-out_of_scope c = refl

pub returns-clause-in_scope : goal.returns-clause-in_scope
unfolding first_fault assertions_in
returns-clause-in_scope c = refl

pub returns-clause-other_sort : goal.returns-clause-other_sort
unfolding first_fault assertions_in
returns-clause-other_sort c = refl

pub returns-clause-after_replacement : goal.returns-clause-after_replacement
unfolding first_fault assertions_in
returns-clause-after_replacement c = refl
