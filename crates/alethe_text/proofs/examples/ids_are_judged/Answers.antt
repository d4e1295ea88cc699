-- Each example by computation.
use Rattle.std.proofs.Common.{refl}
use Rattle.alethe_text.specs.Examples.{first_fault_behind}
use Rattle.alethe_text.proofs.examples.ids_are_judged.Goals as goal

pub returns-clause-twice : goal.returns-clause-twice
unfolding first_fault_behind
returns-clause-twice c = refl

pub returns-clause-siblings : goal.returns-clause-siblings
unfolding first_fault_behind
returns-clause-siblings c = refl

pub returns-clause-closed : goal.returns-clause-closed
unfolding first_fault_behind
returns-clause-closed c = refl

pub returns-clause-outer_assume : goal.returns-clause-outer_assume
unfolding first_fault_behind
returns-clause-outer_assume c = refl

pub returns-clause-open_anchor : goal.returns-clause-open_anchor
unfolding first_fault_behind
returns-clause-open_anchor c = refl

pub returns-clause-same_anchor : goal.returns-clause-same_anchor
unfolding first_fault_behind
returns-clause-same_anchor c = refl
