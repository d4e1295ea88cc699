-- Private. What was read stays read.
use Rattle.std.specs.Prelude.{Contains}
use Rattle.term_model.specs.Terms.{Term}
use Rattle.alethe_text.specs.States.{ProofState, Reading}
use Rattle.alethe_reader.specs.Answers.{WasRead}

-- each term that was read before the reading was read by its end
pub record KeepsRead {A : Type 0} (reading : Reading A) : Type 0 where
  pub keeps : (x : Term) (p : ProofState) → Contains p.script.terms x → WasRead (reading p) x
