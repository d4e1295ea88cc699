-- Public. What a run of the top call comes to, with the text that it prints and the status with which it ends.
use Rattle.std.specs.Prelude.{ℕ, List}
use Rattle.carcara_cli.specs.declared.answer.Answer.{Answer}
use Rattle.carcara_cli.specs.Printed.{status_of, text_of}

-- An answer; or a text with its status, which is no answer: an elaborated proof, what a refutation needs, or the summary of the generator's
-- texts.
pub data Outcome : Type 0 where
  answered : Answer → Outcome
  printed : ℕ → List ℕ → Outcome

abbrev pub status_of_outcome : Outcome → ℕ
status_of_outcome (answered a) = status_of a
status_of_outcome (printed status text) = status

abbrev pub text_of_outcome : Outcome → List ℕ
text_of_outcome (answered a) = text_of a
text_of_outcome (printed status text) = text
