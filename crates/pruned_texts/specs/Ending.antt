-- Public. How the printing of what a refutation needs ends, and what was written of it.
use Rattle.std.specs.Prelude.{◌≡◌, ◌⊎◌, ℕ, List}
use Rattle.file_ports.specs.Faults.{HasRisen}
use Rattle.named_proofs.specs.Written.{SinkView, WritesPrefix, WritesWhole}
use Rattle.command_words.specs.declared.request.Options.{Options}
use Rattle.pruned_texts.specs.declared.needing.End.{End}
use Rattle.pruned_texts.specs.declared.needing.End.TheVariants as end
use Rattle.pruned_texts.specs.declared.needing.Part.{Part}
use Rattle.pruned_texts.specs.Needed.{IsJudgementInstead, IsNeededText}

-- what was written, by how it ended, where the largest pool has 2^bits places
abbrev pub EndsSo : Part → List ℕ → Options → List ℕ → ℕ → SinkView → SinkView → End → Type 0
EndsSo part problem options proof bits old new (end.Instead j) = (new ≡ old) × IsJudgementInstead problem options proof bits j
EndsSo part problem options proof bits old new end.Written = WritesWhole (IsNeededText part problem options proof) old.written new.written
EndsSo part problem options proof bits old new end.Failed =
    HasRisen old.faults new.faults × WritesPrefix (IsNeededText part problem options proof) old.written new.written
EndsSo part problem options proof bits old new end.Memory =
    (new.written ≡ old.written) ⊎ WritesPrefix (IsNeededText part problem options proof) old.written new.written
