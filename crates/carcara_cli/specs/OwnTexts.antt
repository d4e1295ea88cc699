-- Public. The commands that print a text of their own of some proofs, which is no answer: what they print, and what they say instead.
use Rattle.std.specs.Prelude.{◌≡◌, ℕ, List}
use Rattle.command_words.specs.declared.request.Options.{Options}
use Rattle.judged_texts.specs.declared.judgement.Judgement.{Judgement}
use Rattle.elaborated_texts.specs.Elaborated.{IsElaboratedText}
use Rattle.elaborated_texts.specs.Elaborated as Elaborated
use Rattle.pruned_texts.specs.declared.needing.Part.{Part}
use Rattle.pruned_texts.specs.Needed.{IsNeededText}
use Rattle.pruned_texts.specs.Needed as Needed

-- An elaboration of the proof; or what a valid proof needs, its core or its commands.
pub data Own : Type 0 where
  elaboration : Own
  needed : Part → Own

-- the text may be printed of the two texts, with this status
abbrev pub IsOwnText : Own → List ℕ → Options → List ℕ → ℕ → List ℕ → Type 0
IsOwnText elaboration problem options proof status text = IsElaboratedText problem options proof status text
IsOwnText (needed part) problem options proof status text = (status ≡ 0) × IsNeededText part problem options proof text

-- This is said of the two texts instead, where the largest pool has 2^bits places. Of an elaboration it is neither `valid` nor `holey`, and of
-- what is needed it is not `valid`.
abbrev pub IsSaidInsteadBy : Own → List ℕ → Options → List ℕ → ℕ → Judgement → Type 0
IsSaidInsteadBy elaboration problem options proof bits j = Elaborated.IsJudgementInstead problem options proof bits j
IsSaidInsteadBy (needed part) problem options proof bits j = Needed.IsJudgementInstead problem options proof bits j
