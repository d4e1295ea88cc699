-- Each example by computation.
use Rattle.std.proofs.Common.{refl}
use Rattle.problem_text.specs.Examples.{first_fault, assertions_in}
use Rattle.problem_text.proofs.examples.terms_are_judged_in_order.Goals as goal

pub returns-clause-widest : goal.returns-clause-widest
unfolding first_fault assertions_in
returns-clause-widest c = refl

pub returns-clause-too_wide : goal.returns-clause-too_wide
unfolding first_fault assertions_in
returns-clause-too_wide c = refl

pub returns-clause-quantifier : goal.returns-clause-quantifier
unfolding first_fault assertions_in
returns-clause-quantifier c = refl

pub returns-clause-not_bool : goal.returns-clause-not_bool
unfolding first_fault assertions_in
returns-clause-not_bool c = refl

pub returns-clause-arguments_first : goal.returns-clause-arguments_first
unfolding first_fault assertions_in
returns-clause-arguments_first c = refl

pub returns-clause-head_first : goal.returns-clause-head_first
unfolding first_fault assertions_in
returns-clause-head_first c = refl

pub returns-clause-shape_of_let : goal.returns-clause-shape_of_let
unfolding first_fault assertions_in
returns-clause-shape_of_let c = refl

pub returns-clause-twice_in_let : goal.returns-clause-twice_in_let
unfolding first_fault assertions_in
returns-clause-twice_in_let c = refl

pub returns-clause-no_name : goal.returns-clause-no_name
unfolding first_fault assertions_in
returns-clause-no_name c = refl
