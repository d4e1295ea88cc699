-- Each example by computation.
use Rattle.std.proofs.Common.{refl}
use Rattle.alethe_text.specs.Examples.{proof_behind}
use Rattle.alethe_text.proofs.examples.texts_stand_for_proofs.Goals as goal

pub returns-clause-quoted : goal.returns-clause-quoted
unfolding proof_behind
returns-clause-quoted c = refl

pub returns-clause-named : goal.returns-clause-named
unfolding proof_behind
returns-clause-named c = refl

pub returns-clause-steps : goal.returns-clause-steps
unfolding proof_behind
returns-clause-steps c = refl

pub returns-clause-subproof : goal.returns-clause-subproof
unfolding proof_behind
returns-clause-subproof c = refl
