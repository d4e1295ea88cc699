-- Each example by computation.
use Rattle.std.proofs.Common.{refl}
use Rattle.problem_text.specs.Examples.{first_fault, assertions_in}
use Rattle.problem_text.proofs.examples.lets_are_kept_or_replaced.Goals as goal

pub returns-clause-kept : goal.returns-clause-kept
unfolding first_fault assertions_in
returns-clause-kept c = refl

pub returns-clause-replaced : goal.returns-clause-replaced
unfolding first_fault assertions_in
returns-clause-replaced c = refl

pub returns-clause-defined : goal.returns-clause-defined
unfolding first_fault assertions_in
returns-clause-defined c = refl
