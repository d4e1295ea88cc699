-- Each example by computation.
use Rattle.std.proofs.Common.{refl}
use Rattle.problem_text.specs.Examples.{first_fault, assertions_in}
use Rattle.problem_text.proofs.examples.commands_are_judged_in_order.Goals as goal

pub returns-clause-quoted_word : goal.returns-clause-quoted_word
unfolding first_fault assertions_in
returns-clause-quoted_word c = refl

pub returns-clause-shape_first : goal.returns-clause-shape_first
unfolding first_fault assertions_in
returns-clause-shape_first c = refl

pub returns-clause-after_check : goal.returns-clause-after_check
unfolding first_fault assertions_in
returns-clause-after_check c = refl

pub returns-clause-after_exit : goal.returns-clause-after_exit
unfolding first_fault assertions_in
returns-clause-after_exit c = refl

pub returns-clause-twice : goal.returns-clause-twice
unfolding first_fault assertions_in
returns-clause-twice c = refl

pub returns-clause-parameter : goal.returns-clause-parameter
unfolding first_fault assertions_in
returns-clause-parameter c = refl

pub returns-clause-own_name : goal.returns-clause-own_name
unfolding first_fault assertions_in
returns-clause-own_name c = refl
