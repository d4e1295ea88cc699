-- Private. What is printed where the printing of a text of its own ended.
use Rattle.std.specs.Prelude.{◌≡◌, ◌⊎◌, ℕ, List, Option}
use Rattle.std.specs.Io.KnownBytes.{Appends}
use Rattle.file_ports.specs.Faults.{HasRisen}
use Rattle.file_ports.specs.Texts.{AppendsPrefix}
use Rattle.command_words.specs.declared.request.Options.{Options}
use Rattle.named_proofs.specs.Written.{SinkView}
use Rattle.elaborated_texts.specs.declared.elaborating.End.{End}
use Rattle.elaborated_texts.specs.declared.elaborating.End.TheVariants as end
use Rattle.pruned_texts.specs.declared.needing.End.{End as NeededEnd}
use Rattle.pruned_texts.specs.declared.needing.End.TheVariants as needed_end
use Rattle.carcara_cli.specs.declared.answer.Answer.TheVariants.{Judged}
use Rattle.carcara_cli.specs.Outcomes.{Outcome, answered, printed}
use Rattle.carcara_cli.specs.OwnTexts.{Own, IsOwnText, IsSaidInsteadBy}
use Rattle.carcara_cli.specs.TopCall.{IsPrinted}

-- what the two texts come to
abbrev pub TextsComeTo : Own → List ℕ → Options → List ℕ → ℕ → Outcome → Type 0
TextsComeTo own problem options proof bits (answered (Judged j)) = IsSaidInsteadBy own problem options proof bits j
TextsComeTo own problem options proof bits (answered a) = ⊥
TextsComeTo own problem options proof bits (printed status text) = IsOwnText own problem options proof status text

-- what was printed of it
pub record IsFinished (own : Own) (problem : List ℕ) (options : Options) (proof : List ℕ) (bits : ℕ) (old new : SinkView) (status : ℕ) : Type 0 where
  pub printed : IsPrinted (TextsComeTo own problem options proof bits) old.written new.written status
  pub failed : status ≡ 6 → HasRisen old.faults new.faults

-- the whole text was written, with this status, and a prefix of it
pub record WritesOwn (own : Own) (problem : List ℕ) (options : Options) (proof : List ℕ) (status : ℕ) (old new : Option (List ℕ)) : Type 0 where
  pub text : List ℕ
  pub is : IsOwnText own problem options proof status text
  pub printed : Appends old new text

pub record BeginsOwn (own : Own) (problem : List ℕ) (options : Options) (proof : List ℕ) (old new : Option (List ℕ)) : Type 0 where
  pub status : ℕ
  pub text : List ℕ
  pub is : IsOwnText own problem options proof status text
  pub printed : AppendsPrefix old new text

-- what was written, by how the printing ended
abbrev pub EndsBy : Own → List ℕ → Options → List ℕ → ℕ → SinkView → SinkView → End → Type 0
EndsBy own problem options proof bits old new (end.Instead j) = (new ≡ old) × IsSaidInsteadBy own problem options proof bits j
EndsBy own problem options proof bits old new (end.Written status) = WritesOwn own problem options proof status old.written new.written
EndsBy own problem options proof bits old new end.Failed = HasRisen old.faults new.faults × BeginsOwn own problem options proof old.written new.written
EndsBy own problem options proof bits old new end.Memory = (new.written ≡ old.written) ⊎ BeginsOwn own problem options proof old.written new.written

-- how the printing of what is needed ended, as that of an elaboration does
abbrev pub ends_as : NeededEnd → End
ends_as (needed_end.Instead j) = end.Instead j
ends_as needed_end.Written = end.Written 0
ends_as needed_end.Failed = end.Failed
ends_as needed_end.Memory = end.Memory
