-- Each example by computation.
use Rattle.std.proofs.Common.{refl}
use Rattle.alethe_text.specs.Examples.{first_fault_behind, proof_behind, strict}
use Rattle.alethe_text.proofs.examples.arguments_are_read_by_rules.Goals as goal

pub returns-clause-lowest : goal.returns-clause-lowest
unfolding proof_behind
returns-clause-lowest c = refl

pub returns-clause-no_coefficient : goal.returns-clause-no_coefficient
unfolding proof_behind
returns-clause-no_coefficient c = refl

pub returns-clause-other_rule : goal.returns-clause-other_rule
unfolding first_fault_behind
returns-clause-other_rule c = refl

pub returns-clause-wide : goal.returns-clause-wide
unfolding first_fault_behind
returns-clause-wide c = refl

pub returns-clause-pivots : goal.returns-clause-pivots
unfolding strict
returns-clause-pivots c = refl

pub returns-clause-unjudged : goal.returns-clause-unjudged
unfolding proof_behind
returns-clause-unjudged c = refl

pub returns-clause-in_arguments : goal.returns-clause-in_arguments
unfolding first_fault_behind
returns-clause-in_arguments c = refl
