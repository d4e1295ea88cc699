-- Private. What is printed, by how filling ended, and a run of `fill`.
use Rattle.std.specs.Prelude.{◌≡◌, ◌⊎◌, ℕ, List, Option, Some}
use Rattle.file_ports.specs.Faults.{HasRisen}
use Rattle.command_words.specs.CommandLine.{Asked, Word}
use Rattle.judged_texts.specs.declared.judgement.Judgement.TheVariants.{PoolFull}
use Rattle.named_proofs.specs.Written.{SinkView}
use Rattle.hole_fillers.specs.Benches.{Seat, with_budget}
use Rattle.filled_texts.specs.declared.asking.Stop.{Stop}
use Rattle.filled_texts.specs.declared.filling.End.{End}
use Rattle.filled_texts.specs.declared.filling.End.TheVariants as end
use Rattle.filled_texts.specs.Printed.{status_of_asked, text_of_asked}
use Rattle.carcara_cli.specs.declared.answer.Answer.TheVariants.{Judged}
use Rattle.carcara_cli.specs.Outcomes.{Outcome, answered, printed}
use Rattle.carcara_cli.specs.TopCall.{IsPrinted}
use Rattle.filling_cli.specs.Filling.{AsksInOrder, FillsTo}
use Rattle.filling_cli.specs.Words.{fill_of}

-- the answer, or which holes were filled; and nothing out of memory
abbrev pub ComesOf : End → Outcome → Type 0
ComesOf (end.Judged j) o = o ≡ answered (Judged j)
ComesOf (end.Asked asked) o = o ≡ printed (status_of_asked asked) (text_of_asked asked)
ComesOf (end.Stopped Stop.PoolFull) o = o ≡ answered (Judged PoolFull)
ComesOf (end.Stopped Stop.Memory) o = ⊥

-- the counts of faults of the folder, and what it tells
pub record FolderViews : Type 0 where
  pub content : List ℕ → Option (List ℕ)
  pub before : ℕ
  pub after : ℕ

-- a run of `fill`: what was printed, and who was asked
pub record IsRun (bits : ℕ) (f : FolderViews) (p : Asked) (old new : List Seat) (first last : SinkView) (status : ℕ) : Type 0 where
  pub printed : IsPrinted (FillsTo bits f.content f.before f.after p (with_budget old) new) first.written last.written status
  pub asks : AsksInOrder bits f.content p old new status
  pub write_fault : status ≡ 6 → HasRisen first.faults last.faults

-- The words spell `fill`, and it was run; or memory ran out before that was known.
abbrev pub IsRunOrNot : ℕ → FolderViews → List Word → List Seat → List Seat → SinkView → SinkView → ℕ → Type 0
IsRunOrNot bits f words old new first last status =
    ((status ≡ 7) × (new ≡ old) × (last ≡ first)) ⊎ ((p : Asked) × (fill_of words ≡ Some p) × IsRun bits f p old new first last status)
