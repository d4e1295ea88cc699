-- Public. What two texts come to where fillers are asked about the holes of the proof.
use Rattle.std.specs.Prelude.{◌≡◌, ◌⊎◌, ℕ, suc, List, [], ◌∷◌, map, Option, None}
use Rattle.std.specs.Option.{option_map_or}
use Rattle.term_model.specs.Terms.{Var, Term}
use Rattle.rule_model.specs.declared.statuses.Status.{Status}
use Rattle.rule_model.specs.declared.statuses.Verdict.{Verdict}
use Rattle.rule_model.specs.Proofs.{ProofItems}
use Rattle.rule_model.specs.Reading.{closes_at}
use Rattle.command_words.specs.declared.request.Options.{Options}
use Rattle.judged_texts.specs.declared.judgement.Judgement.{Judgement}
use Rattle.judged_texts.specs.declared.judgement.Judgement.TheVariants.{Holey}
use Rattle.judged_texts.specs.Holes.{holes_from, told_hole}
use Rattle.judged_texts.specs.Judgement.{IsCheckedAs, IsJudgement}
use Rattle.hole_fillers.specs.Benches.{Seat}
use Rattle.hole_fillers.specs.Questions.{question_at}
use Rattle.filled_texts.specs.declared.asking.Stop.{Stop}
use Rattle.filled_texts.specs.declared.holes.AskedHoles.{AskedHoles}
use Rattle.filled_texts.specs.declared.filling.End.{End}
use Rattle.filled_texts.specs.declared.filling.End.TheVariants as end
use Rattle.filled_texts.specs.Asking.{ArePut, IsOutOfMemory, StopsAmong}

-- the question about a hole: none where it closes a scope, and none where it would be too long
abbrev pub question_of : ProofItems Var Term → ℕ → Option (List ℕ)
question_of proof i = option_map_or (λ k. None) (closes_at proof i) (question_at proof i)

-- The questions about the holes among the commands from an index on, in file order, where these are their statuses.
abbrev pub questions_from : ProofItems Var Term → ℕ → List Status → List (Option (List ℕ))
questions_from proof i [] = []
questions_from proof i (Status.Hole ∷ statuses) = question_of proof i ∷ questions_from proof (suc i) statuses
questions_from proof i (_ ∷ statuses) = questions_from proof (suc i) statuses

-- the questions about the holes of a proof that was checked
abbrev pub questions : {problem : List ℕ} {options : Options} {proof : List ℕ} {v : Verdict} → IsCheckedAs problem options proof v → List (Option (List ℕ))
questions checked = questions_from checked.commands 0 checked.statuses

-- The proof has holes, which are these, in file order. The questions about them were put to the fillers, and these were filled.
pub record AreAsked (problem : List ℕ) (options : Options) (proof : List ℕ) (old new : List Seat) (asked : AskedHoles) : Type 0 where
  pub checked : IsCheckedAs problem options proof Verdict.Holey
  pub holes : map told_hole asked.holes.items ≡ holes_from checked.commands 0 checked.statuses
  pub put : ArePut (questions checked) old new asked.filled.items

-- what a check says of the two texts where it doesn't say that the proof has holes
abbrev pub IsJudgementWithoutHoles : List ℕ → Options → List ℕ → ℕ → Judgement → Type 0
IsJudgementWithoutHoles problem options proof bits (Holey holes) = ⊥
IsJudgementWithoutHoles problem options proof bits j = IsJudgement problem options proof bits j

-- It stopped: before anybody was asked, or among the questions about the holes.
abbrev pub StopsSo : List ℕ → Options → List ℕ → ℕ → List Seat → List Seat → Stop → Type 0
StopsSo problem options proof bits old new stop =
    IsOutOfMemory old new stop
    ⊎ ((checked : IsCheckedAs problem options proof Verdict.Holey) × StopsAmong bits (questions checked) old new stop)

-- How it ended, and what became of the fillers. The pool for the two texts has 2^own places, and a pool for a question and a reply at
-- most 2^bits.
abbrev pub EndsFrom : List ℕ → Options → List ℕ → ℕ → ℕ → List Seat → List Seat → End → Type 0
EndsFrom problem options proof own bits old new (end.Judged j) = (new ≡ old) × IsJudgementWithoutHoles problem options proof own j
EndsFrom problem options proof own bits old new (end.Asked asked) = AreAsked problem options proof old new asked
EndsFrom problem options proof own bits old new (end.Stopped stop) = StopsSo problem options proof bits old new stop

-- the same where both pools may have as many places
abbrev pub EndsSo : List ℕ → Options → List ℕ → ℕ → List Seat → List Seat → End → Type 0
EndsSo problem options proof bits old new e = EndsFrom problem options proof bits bits old new e

-- The proof has holes, and the first of the questions about them were put to the fillers, in file order: all of them, or up to where it
-- stopped.
pub record AreAskedFirst (problem : List ℕ) (options : Options) (proof : List ℕ) (bits : ℕ) (old new : List Seat) : Type 0 where
  pub checked : IsCheckedAs problem options proof Verdict.Holey
  pub stop : Stop
  pub put : StopsAmong bits (questions checked) old new stop

-- Nobody was asked, or the first questions were put.
abbrev pub AreAskedInOrder : List ℕ → Options → List ℕ → ℕ → List Seat → List Seat → Type 0
AreAskedInOrder problem options proof bits old new = (new ≡ old) ⊎ AreAskedFirst problem options proof bits old new
