-- Public. The answer that the words and the bytes of the two files define, and that a call gives this answer.
use Rattle.std.specs.Prelude.{◌≡◌, ◌≢◌, ◌⊎◌, ◌^◌, ℕ, List, Option, None, Some, ⊤}
use Rattle.std.specs.Io.KnownBytes.{Appends}
use Rattle.file_ports.specs.Faults.{HasRisen}
use Rattle.file_ports.specs.Texts.{AreTold}
use Rattle.proof_gen.specs.Texts.{problem_text, proof_text}
use Rattle.command_words.specs.CommandLine.{Asked, Task, over, generate}
use Rattle.command_words.specs.declared.request.Options.{Options}
use Rattle.command_words.specs.declared.request.Command.{Command}
use Rattle.command_words.specs.declared.request.Command.TheVariants.{Check, Elaborate, Core, Prune}
use Rattle.judged_texts.specs.declared.judgement.Judgement.TheVariants.{Valid, Holey, PoolFull}
use Rattle.judged_texts.specs.Cells.{HasMoreCells}
use Rattle.judged_texts.specs.Printed.{status_of_judgement}
use Rattle.judged_texts.specs.Reading.{NeedsRoom}
use Rattle.elaborated_texts.specs.Elaborated.{HasManyCommands, NeedsRoomToElaborate}
use Rattle.pruned_texts.specs.declared.needing.Part.TheVariants as Part
use Rattle.generated_texts.specs.declared.summarizing.Summary.{Summary}
use Rattle.generated_texts.specs.Summaries.{no_options, IsSummaryOfLinks, text_of_summary}
use Rattle.carcara_cli.specs.declared.answer.Answer.{Answer}
use Rattle.carcara_cli.specs.declared.answer.Answer.TheVariants.{Usage, Judged}
use Rattle.carcara_cli.specs.Printed.{status_of, text_of}
use Rattle.carcara_cli.specs.OwnTexts.{Own, elaboration, needed}
use Rattle.carcara_cli.specs.TopCall.{IsAnswerTo, IsOfFiles}

-- the folder tells the bytes of both files that are asked for
abbrev pub TellsBoth : (List ℕ → Option (List ℕ)) → Asked → Type 0
TellsBoth content p = (content p.problem ≢ None) × (content p.proof ≢ None)

-- The answer that is defined where a proof and a problem are asked for: what a check says where no call of the folder fails, and no full
-- pool.
pub record IsDefinedAnswer (bits : ℕ) (content : List ℕ → Option (List ℕ)) (p : Asked) (a : Answer) : Type 0 where
  pub told : TellsBoth content p
  pub answers : IsAnswerTo bits content 0 0 (Some p) a
  pub has_room : a ≢ Judged PoolFull

-- two answers that are printed alike and end with one status
pub record SaySame (a b : Answer) : Type 0 where
  pub status : status_of a ≡ status_of b
  pub text : text_of a ≡ text_of b

-- the status is that of the answer, and its whole text was printed
abbrev pub IsSaid : Answer → Option (List ℕ) → Option (List ℕ) → ℕ → Type 0
IsSaid a old new status = (status ≡ status_of a) × Appends old new (text_of a)

-- Where a proof is to be elaborated, the whole text of the answer was printed, with its status, where that is neither `valid` nor `holey`;
-- else the status is that of the answer.
abbrev pub IsSaidOfElaborated : Answer → Option (List ℕ) → Option (List ℕ) → ℕ → Type 0
IsSaidOfElaborated (Judged Valid) old new status = status ≡ 0
IsSaidOfElaborated (Judged (Holey holes)) old new status = status ≡ 2
IsSaidOfElaborated a old new status = IsSaid a old new status

-- Where what a valid proof needs is to be printed, the same where the answer is not `valid`; else the status is 0.
abbrev pub IsSaidOfNeeded : Answer → Option (List ℕ) → Option (List ℕ) → ℕ → Type 0
IsSaidOfNeeded (Judged Valid) old new status = status ≡ 0
IsSaidOfNeeded a old new status = IsSaid a old new status

abbrev pub IsSaidByOwn : Own → Answer → Option (List ℕ) → Option (List ℕ) → ℕ → Type 0
IsSaidByOwn elaboration = IsSaidOfElaborated
IsSaidByOwn (needed part) = IsSaidOfNeeded

abbrev pub IsSaidBy : Command → Answer → Option (List ℕ) → Option (List ℕ) → ℕ → Type 0
IsSaidBy Check = IsSaid
IsSaidBy Elaborate = IsSaidByOwn elaboration
IsSaidBy Core = IsSaidByOwn (needed Part.Core)
IsSaidBy Prune = IsSaidByOwn (needed Part.Commands)

-- the status is that of the summary, and its whole text was printed
abbrev pub IsSummed : Summary → Option (List ℕ) → Option (List ℕ) → ℕ → Type 0
IsSummed summary old new status = (status ≡ status_of_judgement summary.judgement) × Appends old new (text_of_summary summary)

-- The status and the text are those that the words and the files define: the usage line where the words spell no command, the one answer
-- of a proof and a problem, as its command says it, and the one summary of the generator's texts.
abbrev pub IsSaidTo : ℕ → (List ℕ → Option (List ℕ)) → Option Task → Option (List ℕ) → Option (List ℕ) → ℕ → Type 0
IsSaidTo bits content None old new status = IsSaid Usage old new status
IsSaidTo bits content (Some (over p)) old new status = (a : Answer) → IsDefinedAnswer bits content p a → IsSaidBy p.command a old new status
IsSaidTo bits content (Some (generate n workers)) old new status = (summary : Summary) → IsSummaryOfLinks n summary → IsSummed summary old new status

-- This is so unless a file was not read (5), the output not written (6), memory ran out (7) or the pool was full (8).
abbrev pub IsExact : ℕ → (List ℕ → Option (List ℕ)) → Option Task → Option (List ℕ) → Option (List ℕ) → ℕ → Type 0
IsExact bits content task old new status = status ≢ 5 → status ≢ 6 → status ≢ 7 → status ≢ 8 → IsSaidTo bits content task old new status

-- More cells need room than 2^bits, for what is done with two texts; or an elaboration may have too many commands.
abbrev pub IsTooMuchOf : Own → ℕ → List ℕ → Options → List ℕ → Type 0
IsTooMuchOf elaboration bits problem options proof =
    HasMoreCells (NeedsRoomToElaborate problem options proof) (2 ^ bits) ⊎ HasManyCommands problem options proof
IsTooMuchOf (needed part) bits problem options proof = HasMoreCells (NeedsRoom problem options proof) (2 ^ bits)

abbrev pub IsTooMuch : Command → ℕ → List ℕ → Options → List ℕ → Type 0
IsTooMuch Check bits problem options proof = HasMoreCells (NeedsRoom problem options proof) (2 ^ bits)
IsTooMuch Elaborate bits problem options proof = IsTooMuchOf elaboration bits problem options proof
IsTooMuch Core bits problem options proof = IsTooMuchOf (needed Part.Core) bits problem options proof
IsTooMuch Prune bits problem options proof = IsTooMuchOf (needed Part.Commands) bits problem options proof

-- the largest pool has room for what is asked for, whatever a file has that is not told
abbrev pub HasRoom : ℕ → (List ℕ → Option (List ℕ)) → Option Task → Type 0
HasRoom bits content None = ⊤
HasRoom bits content (Some (over p)) =
    (problem proof : List ℕ) → AreTold (content p.problem) problem → AreTold (content p.proof) proof → ¬ IsTooMuch p.command bits problem p.options proof
HasRoom bits content (Some (generate n workers)) = ¬ HasMoreCells (NeedsRoom (problem_text n) no_options (proof_text n)) (2 ^ bits)

-- What the outside does while a call lasts: the counts of faults of the folder and of the sink, before and after.
pub record Faults : Type 0 where
  pub read_before : ℕ
  pub read_after : ℕ
  pub write_before : ℕ
  pub write_after : ℕ

-- Where no count of faults rose and the pool has room, what is defined was said, or memory ran out.
abbrev pub IsComplete : ℕ → (List ℕ → Option (List ℕ)) → Faults → Option Task → Option (List ℕ) → Option (List ℕ) → ℕ → Type 0
IsComplete bits content faults task old new status =
    ¬ HasRisen faults.read_before faults.read_after → ¬ HasRisen faults.write_before faults.write_after → HasRoom bits content task →
    (status ≡ 7) ⊎ IsSaidTo bits content task old new status
