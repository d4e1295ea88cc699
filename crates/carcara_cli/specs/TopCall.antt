-- Public. What the top call returns, over what a folder tells of its files and what the command line asks for, and what
-- it prints.
use Rattle.std.specs.Prelude.{◌≡◌, ◌≢◌, ◌⊎◌, ℕ, ◌≤◌, false, List, length, Option, None, Some, ⊤}
use Rattle.std.specs.Io.KnownBytes.{Appends}
use Rattle.term_model.specs.Unsatisfiable.{Unsatisfiable}
use Rattle.problem_text.specs.Problems.{StandsForProblem}
use Rattle.problem_text.specs.Scripts.{Script}
use Rattle.file_ports.specs.Faults.{HasRisen}
use Rattle.file_ports.specs.Texts.{AreTold, IsLongerThan, AppendsPrefix}
use Rattle.proof_gen.specs.Texts.{problem_text}
use Rattle.command_words.specs.declared.request.Options.{Options}
use Rattle.command_words.specs.CommandLine.{Asked, Task, over, generate}
use Rattle.command_words.specs.declared.request.Command.{Command}
use Rattle.command_words.specs.declared.request.Command.TheVariants.{Check, Elaborate, Core, Prune}
use Rattle.judged_texts.specs.declared.judgement.Judgement.{Judgement}
use Rattle.judged_texts.specs.Judgement.{IsJudgement}
use Rattle.judged_texts.specs.Printed.{status_of_judgement}
use Rattle.judged_texts.specs.Reading.{most_bytes}
use Rattle.pruned_texts.specs.declared.needing.Part.TheVariants as Part
use Rattle.generated_texts.specs.declared.generating.Generated.TheVariants as Generated
use Rattle.generated_texts.specs.declared.summarizing.Summary.{Summary}
use Rattle.generated_texts.specs.Generating.{ComesOfLinks}
use Rattle.generated_texts.specs.Summaries.{IsSummaryOfLinks, text_of_summary}
use Rattle.carcara_cli.specs.declared.answer.Answer.{Answer}
use Rattle.carcara_cli.specs.declared.answer.Answer.TheVariants.{Usage, ReadFault, TooLong, Judged}
use Rattle.carcara_cli.specs.OwnTexts.{Own, elaboration, needed, IsOwnText, IsSaidInsteadBy}
use Rattle.carcara_cli.specs.Outcomes.{Outcome, answered, printed, status_of_outcome, text_of_outcome}

-- the largest pool has 2^26 places
abbrev pub most_bits : ℕ
most_bits = 26

-- each of the two paths may be asked for, where there are two
abbrev pub MayAskBoth : (List ℕ → Type 0) → Option Task → Type 0
MayAskBoth may_ask None = ⊤
MayAskBoth may_ask (Some (over p)) = may_ask p.problem × may_ask p.proof
MayAskBoth may_ask (Some (generate n workers)) = ⊤

-- the file has no more bytes than it may, where it is told
abbrev pub IsWithinLimit : Option (List ℕ) → Type 0
IsWithinLimit None = ⊤
IsWithinLimit (Some bytes) = length bytes ≤ most_bytes

-- The problem's file is too long; or it is not, and the proof's is.
abbrev pub IsTooLong : Option (List ℕ) → Option (List ℕ) → Type 0
IsTooLong problem proof = IsLongerThan most_bytes problem ⊎ (IsWithinLimit problem × IsLongerThan most_bytes proof)

-- There are bytes of both files, those that are told where some are, and no more than a file may have. Their texts come to this
-- judgement, where the largest pool has 2^bits places.
pub record IsJudgedOfFiles (bits : ℕ) (options : Options) (problem proof : Option (List ℕ)) (j : Judgement) : Type 0 where
  pub problem_text : List ℕ
  pub proof_text : List ℕ
  pub problem_told : AreTold problem problem_text
  pub proof_told : AreTold proof proof_text
  pub problem_within : length problem_text ≤ most_bytes
  pub proof_within : length proof_text ≤ most_bytes
  pub judged : IsJudgement problem_text options proof_text bits j

-- What an answer to a check says: over what a folder tells of its files and its count of faults before and after, and over what
-- the words ask for, where the largest pool has 2^bits places.
abbrev pub IsAnswerTo : ℕ → (List ℕ → Option (List ℕ)) → ℕ → ℕ → Option Asked → Answer → Type 0
IsAnswerTo bits content before after None a = a ≡ Usage
IsAnswerTo bits content before after (Some p) ReadFault = HasRisen before after
IsAnswerTo bits content before after (Some p) TooLong = IsTooLong (content p.problem) (content p.proof)
IsAnswerTo bits content before after (Some p) (Judged j) = IsJudgedOfFiles bits p.options (content p.problem) (content p.proof) j
IsAnswerTo bits content before after (Some p) Usage = ⊥

-- There are bytes of both files, those that are told where some are, and no more than a file may have; and of them this is so.
pub record IsOfFiles (problem proof : Option (List ℕ)) (Is : List ℕ → List ℕ → Type 0) : Type 0 where
  pub problem_text : List ℕ
  pub proof_text : List ℕ
  pub problem_told : AreTold problem problem_text
  pub proof_told : AreTold proof proof_text
  pub problem_within : length problem_text ≤ most_bytes
  pub proof_within : length proof_text ≤ most_bytes
  pub is : Is problem_text proof_text

-- what a check comes to: an answer
abbrev pub ChecksTo : ℕ → (List ℕ → Option (List ℕ)) → ℕ → ℕ → Asked → Outcome → Type 0
ChecksTo bits content before after p (answered a) = IsAnswerTo bits content before after (Some p) a
ChecksTo bits content before after p (printed status text) = ⊥

-- An answer where a text of its own is printed of some proofs: as to a check, but for what is said of the two texts.
abbrev pub IsAnswerInstead : Own → ℕ → (List ℕ → Option (List ℕ)) → ℕ → ℕ → Asked → Answer → Type 0
IsAnswerInstead own bits content before after p (Judged j) =
    IsOfFiles (content p.problem) (content p.proof) (λ problem proof. IsSaidInsteadBy own problem p.options proof bits j)
IsAnswerInstead own bits content before after p a = IsAnswerTo bits content before after (Some p) a

-- what such a command comes to: such an answer, or a text of its own
abbrev pub OwnTo : Own → ℕ → (List ℕ → Option (List ℕ)) → ℕ → ℕ → Asked → Outcome → Type 0
OwnTo own bits content before after p (answered a) = IsAnswerInstead own bits content before after p a
OwnTo own bits content before after p (printed status text) =
    IsOfFiles (content p.problem) (content p.proof) (λ problem proof. IsOwnText own problem p.options proof status text)

abbrev pub ComesTo : Command → ℕ → (List ℕ → Option (List ℕ)) → ℕ → ℕ → Asked → Outcome → Type 0
ComesTo Check = ChecksTo
ComesTo Elaborate = OwnTo elaboration
ComesTo Core = OwnTo (needed Part.Core)
ComesTo Prune = OwnTo (needed Part.Commands)

-- the text and the status are those of a summary of the texts of n links
pub record IsSummaryText (n : ℕ) (status : ℕ) (text : List ℕ) : Type 0 where
  pub summary : Summary
  pub is : IsSummaryOfLinks n summary
  pub is_status : status ≡ status_of_judgement summary.judgement
  pub is_text : text ≡ text_of_summary summary

-- What `generate` comes to, which asks for no file: a summary; or what is said of the two texts instead, which is that the largest pool is
-- full. That these texts are never refused is not said here.
abbrev pub GeneratesTo : ℕ → ℕ → Outcome → Type 0
GeneratesTo bits n (answered (Judged j)) = ComesOfLinks n bits (Generated.Not j)
GeneratesTo bits n (answered a) = ⊥
GeneratesTo bits n (printed status text) = IsSummaryText n status text

abbrev pub DoesTo : ℕ → (List ℕ → Option (List ℕ)) → ℕ → ℕ → Task → Outcome → Type 0
DoesTo bits content before after (over p) o = ComesTo p.command bits content before after p o
DoesTo bits content before after (generate n workers) o = GeneratesTo bits n o

-- What the words come to: the usage line where they spell no command, and else what their command comes to.
abbrev pub IsOutcomeTo : ℕ → (List ℕ → Option (List ℕ)) → ℕ → ℕ → Option Task → Outcome → Type 0
IsOutcomeTo bits content before after None o = o ≡ answered Usage
IsOutcomeTo bits content before after (Some task) o = DoesTo bits content before after task o

-- the whole text of an outcome was printed, and the status is the outcome's
pub record PrintsWhole (MayComeTo : Outcome → Type 0) (old new : Option (List ℕ)) (status : ℕ) : Type 0 where
  pub outcome : Outcome
  pub may_come : MayComeTo outcome
  pub is_status : status ≡ status_of_outcome outcome
  pub printed : Appends old new (text_of_outcome outcome)

-- a prefix of the text of an outcome was printed
pub record PrintsPrefix (MayComeTo : Outcome → Type 0) (old new : Option (List ℕ)) : Type 0 where
  pub outcome : Outcome
  pub may_come : MayComeTo outcome
  pub printed : AppendsPrefix old new (text_of_outcome outcome)

-- What was printed, by the status. After a failed write (6) it is a prefix of an outcome's text, after out of memory (7) such a
-- prefix or nothing, and with any other status the whole text of an outcome of that status.
pub record IsPrinted (MayComeTo : Outcome → Type 0) (old new : Option (List ℕ)) (status : ℕ) : Type 0 where
  pub whole : status ≢ 6 → status ≢ 7 → PrintsWhole MayComeTo old new status
  pub write_fault : status ≡ 6 → PrintsPrefix MayComeTo old new
  pub memory : status ≡ 7 → PrintsPrefix MayComeTo old new ⊎ (new ≡ old)

-- There are bytes of both files, those that are told where some are, and the problem's stand for a script whose assertions no
-- interpretation makes all true.
pub record IsShownUnsatisfiable (options : Options) (problem proof : Option (List ℕ)) : Type 0 where
  pub problem_text : List ℕ
  pub proof_text : List ℕ
  pub problem_told : AreTold problem problem_text
  pub proof_told : AreTold proof proof_text
  pub script : Script
  pub stands : StandsForProblem problem_text options.replaces_lets script
  pub unsatisfiable : Unsatisfiable script.assertions

-- no interpretation makes every assertion of the generator's problem true
pub record IsUnsatisfiableOfLinks (n : ℕ) : Type 0 where
  pub script : Script
  pub stands : StandsForProblem (problem_text n) false script
  pub unsatisfiable : Unsatisfiable script.assertions

abbrev pub ShowsUnsatisfiable : (List ℕ → Option (List ℕ)) → Option Task → Type 0
ShowsUnsatisfiable content None = ⊥
ShowsUnsatisfiable content (Some (over p)) = IsShownUnsatisfiable p.options (content p.problem) (content p.proof)
ShowsUnsatisfiable content (Some (generate n workers)) = IsUnsatisfiableOfLinks n
