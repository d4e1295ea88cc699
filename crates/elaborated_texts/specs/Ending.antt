-- Public. How an elaboration ends, and what was written of it.
use Rattle.std.specs.Prelude.{◌≡◌, ◌⊎◌, ℕ, List}
use Rattle.file_ports.specs.Faults.{HasRisen}
use Rattle.named_proofs.specs.Written.{SinkView, WritesPrefix, WritesWhole}
use Rattle.command_words.specs.declared.request.Options.{Options}
use Rattle.elaborated_texts.specs.declared.elaborating.End.{End}
use Rattle.elaborated_texts.specs.declared.elaborating.End.TheVariants as end
use Rattle.elaborated_texts.specs.Elaborated.{IsElaboratedText, IsJudgementInstead}

-- the text of an elaboration, with either status
abbrev pub IsTextOfSome : List ℕ → Options → List ℕ → List ℕ → Type 0
IsTextOfSome problem options proof bytes = (status : ℕ) × IsElaboratedText problem options proof status bytes

-- what was written, by how an elaboration ended
abbrev pub EndsSo : List ℕ → Options → List ℕ → ℕ → SinkView → SinkView → End → Type 0
EndsSo problem options proof bits old new (end.Instead j) = (new ≡ old) × IsJudgementInstead problem options proof bits j
EndsSo problem options proof bits old new (end.Written status) = WritesWhole (IsElaboratedText problem options proof status) old.written new.written
EndsSo problem options proof bits old new end.Failed =
    HasRisen old.faults new.faults × WritesPrefix (IsTextOfSome problem options proof) old.written new.written
EndsSo problem options proof bits old new end.Memory =
    (new.written ≡ old.written) ⊎ WritesPrefix (IsTextOfSome problem options proof) old.written new.written
