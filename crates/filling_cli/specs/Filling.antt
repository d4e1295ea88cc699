-- Public. What `fill` comes to, over what a folder tells of its files and what the words ask for, and what becomes of the fillers.
use Rattle.std.specs.Prelude.{◌≡◌, ◌≢◌, ◌⊎◌, ℕ, List, Option, None, Some, ⊤}
use Rattle.file_ports.specs.Faults.{HasRisen}
use Rattle.command_words.specs.CommandLine.{Asked}
use Rattle.command_words.specs.declared.request.Options.{Options}
use Rattle.judged_texts.specs.declared.judgement.Judgement.{Judgement}
use Rattle.judged_texts.specs.declared.judgement.Judgement.TheVariants.{Holey, PoolFull}
use Rattle.hole_fillers.specs.Benches.{Seat, with_budget}
use Rattle.filled_texts.specs.declared.asking.Stop.{Stop}
use Rattle.filled_texts.specs.declared.filling.End.TheVariants as end
use Rattle.filled_texts.specs.declared.holes.AskedHoles.{AskedHoles}
use Rattle.filled_texts.specs.Filled.{AreAsked, AreAskedFirst, EndsSo}
use Rattle.filled_texts.specs.Printed.{status_of_asked, text_of_asked}
use Rattle.carcara_cli.specs.declared.answer.Answer.{Answer}
use Rattle.carcara_cli.specs.declared.answer.Answer.TheVariants.{Usage, ReadFault, TooLong, Judged}
use Rattle.carcara_cli.specs.Exactness.{IsDefinedAnswer, IsSaid}
use Rattle.carcara_cli.specs.Outcomes.{Outcome, answered, printed}
use Rattle.carcara_cli.specs.TopCall.{IsOfFiles, IsTooLong}

-- each of the two paths may be asked for, where there are two
abbrev pub MayFill : (List ℕ → Type 0) → Option Asked → Type 0
MayFill may_ask None = ⊤
MayFill may_ask (Some p) = may_ask p.problem × may_ask p.proof

-- The proof has holes, about which the fillers were asked. With this status the text is printed, of which of them were filled.
pub record IsFilledText (problem : List ℕ) (options : Options) (proof : List ℕ) (old new : List Seat) (status : ℕ) (text : List ℕ) : Type 0 where
  pub asked : AskedHoles
  pub are : AreAsked problem options proof old new asked
  pub is_status : status ≡ status_of_asked asked
  pub is_text : text ≡ text_of_asked asked

-- What is said of the two texts where nobody was asked. `pool full` is said of them, or where questions were put, of one of these and its
-- reply. Pools have at most 2^bits places.
abbrev pub IsJudgedSo : List ℕ → Options → List ℕ → ℕ → List Seat → List Seat → Judgement → Type 0
IsJudgedSo problem options proof bits old new PoolFull =
    EndsSo problem options proof bits old new (end.Judged PoolFull) ⊎ EndsSo problem options proof bits old new (end.Stopped Stop.PoolFull)
IsJudgedSo problem options proof bits old new j = EndsSo problem options proof bits old new (end.Judged j)

-- What `fill` comes to, and what became of the fillers, of which each may be asked. Nobody is asked where a file is not read.
abbrev pub FillsTo : ℕ → (List ℕ → Option (List ℕ)) → ℕ → ℕ → Asked → List Seat → List Seat → Outcome → Type 0
FillsTo bits content before after p old new (answered Usage) = ⊥
FillsTo bits content before after p old new (answered ReadFault) = (new ≡ old) × HasRisen before after
FillsTo bits content before after p old new (answered TooLong) = (new ≡ old) × IsTooLong (content p.problem) (content p.proof)
FillsTo bits content before after p old new (answered (Judged j)) =
    IsOfFiles (content p.problem) (content p.proof) (λ problem proof. IsJudgedSo problem p.options proof bits old new j)
FillsTo bits content before after p old new (printed status text) =
    IsOfFiles (content p.problem) (content p.proof) (λ problem proof. IsFilledText problem p.options proof old new status text)

-- Fillers that may not be asked were dropped first, and then nobody was asked, or the first of the questions about the holes were put to the
-- others, in file order. Out of memory (7) nobody may have been dropped.
abbrev pub AsksInOrder : ℕ → (List ℕ → Option (List ℕ)) → Asked → List Seat → List Seat → ℕ → Type 0
AsksInOrder bits content p old new status =
    ((status ≡ 7) × (new ≡ old))
    ⊎ ((new ≡ with_budget old)
    ⊎ IsOfFiles (content p.problem) (content p.proof) (λ problem proof. AreAskedFirst problem p.options proof bits (with_budget old) new))

-- Where holes are filled, the whole text of an answer that a check defines was printed, with its status, where that isn't `holey`; and else
-- the status is that of `valid` or of `holey`.
abbrev pub IsSaidOfFilled : Answer → Option (List ℕ) → Option (List ℕ) → ℕ → Type 0
IsSaidOfFilled (Judged (Holey holes)) old new status = (status ≡ 0) ⊎ (status ≡ 2)
IsSaidOfFilled a old new status = IsSaid a old new status

-- This is so unless a file was not read (5), the output not written (6), memory ran out (7) or a pool was full (8).
abbrev pub IsExactlyFilled : ℕ → (List ℕ → Option (List ℕ)) → Asked → Option (List ℕ) → Option (List ℕ) → ℕ → Type 0
IsExactlyFilled bits content p old new status =
    status ≢ 5 → status ≢ 6 → status ≢ 7 → status ≢ 8 → (a : Answer) → IsDefinedAnswer bits content p a → IsSaidOfFilled a old new status
