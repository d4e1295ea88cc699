-- Each example by computation.
use Rattle.std.proofs.Common.{refl}
use Rattle.std.specs.Fmt.{digits}
use Rattle.alethe_text.specs.Examples.{proof_behind, strict}
use Rattle.readable_proofs.proofs.examples.hidden_functions_are_not_read_back.Goals as goal

pub returns-clause-printed : goal.returns-clause-printed
unfolding proof_behind digits
returns-clause-printed c = refl

pub returns-clause-meant : goal.returns-clause-meant
unfolding proof_behind digits
returns-clause-meant c = refl

pub returns-clause-read : goal.returns-clause-read
unfolding strict
returns-clause-read c = refl

pub returns-clause-printed_in_scope : goal.returns-clause-printed_in_scope
unfolding proof_behind digits
returns-clause-printed_in_scope c = refl

pub returns-clause-read_in_scope : goal.returns-clause-read_in_scope
unfolding strict
returns-clause-read_in_scope c = refl
