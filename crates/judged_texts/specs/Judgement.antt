-- Public. What the texts of a problem and of a proof come to.
use Rattle.std.specs.Prelude.{◌≡◌, ◌⊎◌, ℕ, ◌^◌, List, map}
use Rattle.sexpr.specs.declared.causes.Refusal.{Refusal}
use Rattle.term_model.specs.Terms.{Var, Term}
use Rattle.rule_model.specs.declared.statuses.Status.{Status}
use Rattle.rule_model.specs.declared.statuses.Verdict.{Verdict}
use Rattle.rule_model.specs.Proofs.{ProofItems}
use Rattle.rule_model.specs.Reading.{id_at}
use Rattle.rule_model.specs.Statuses.{AreStatuses, IsVerdict}
use Rattle.problem_text.specs.Problems.{StandsForProblem, IsFirstFault}
use Rattle.problem_text.specs.Scripts.{Script}
use Rattle.alethe_text.specs.ProofTexts.{StandsForProof, IsFirstProofFault}
use Rattle.command_words.specs.declared.request.Options.{Options}
use Rattle.judged_texts.specs.declared.judgement.Judgement.{Judgement}
use Rattle.judged_texts.specs.declared.judgement.Judgement.TheVariants.{Valid, Holey, NoEmptyClause, Faulty, TooWide, RefusedProblem, RefusedProof, PoolFull}
use Rattle.judged_texts.specs.Reading.{checking_of, settings_of, NeedsRoom}
use Rattle.judged_texts.specs.Cells.{HasMoreCells}
use Rattle.judged_texts.specs.Holes.{holes_from, told_hole}

-- What the two texts stand for, the status of each command of the proof, and the verdict that the statuses come to, by the
-- options: lets are replaced, conditions are strict, and steps by unknown rules are holes, where they ask for that.
pub record IsCheckedAs (problem : List ℕ) (options : Options) (proof : List ℕ) (v : Verdict) : Type 0 where
  pub script : Script
  pub commands : ProofItems Var Term
  pub after : Script
  pub statuses : List Status
  pub problem_text : StandsForProblem problem options.replaces_lets script
  pub proof_text : StandsForProof proof (settings_of options) script commands after
  pub are : AreStatuses (checking_of options script.assertions) commands statuses
  pub verdict : IsVerdict statuses commands v

-- a command is named by its id
abbrev pub NamesCommand : List ℕ → Options → List ℕ → (ℕ → Verdict) → List ℕ → Type 0
NamesCommand problem options proof v id =
    (i : ℕ) × (checked : IsCheckedAs problem options proof (v i)) × (id ≡ id_at checked.commands i)

-- What is said of the two texts, where the largest pool has 2^bits places. The problem's refusal goes first.
abbrev pub IsJudgement : List ℕ → Options → List ℕ → ℕ → Judgement → Type 0
IsJudgement problem options proof bits Valid = IsCheckedAs problem options proof Verdict.Valid
IsJudgement problem options proof bits (Holey holes) =
    (checked : IsCheckedAs problem options proof Verdict.Holey)
    × (map told_hole holes.items ≡ holes_from checked.commands 0 checked.statuses)
IsJudgement problem options proof bits NoEmptyClause = IsCheckedAs problem options proof Verdict.NoEmpty
IsJudgement problem options proof bits (Faulty id cause) = NamesCommand problem options proof (λ i. Verdict.InvalidAt i cause) id.items
IsJudgement problem options proof bits (TooWide id) = NamesCommand problem options proof Verdict.Unknown id.items
IsJudgement problem options proof bits (RefusedProblem r) = IsFirstFault problem options.replaces_lets r
IsJudgement problem options proof bits (RefusedProof r) =
    (script : Script) × StandsForProblem problem options.replaces_lets script
    × IsFirstProofFault proof (settings_of options) script r
IsJudgement problem options proof bits PoolFull = HasMoreCells (NeedsRoom problem options proof) (2 ^ bits)

-- The texts have a judgement: one of them is refused, or the proof has a verdict.
abbrev pub HasJudgement : List ℕ → Options → List ℕ → Type 0
HasJudgement problem options proof =
    ((r : Refusal) × IsFirstFault problem options.replaces_lets r)
    ⊎ (((script : Script) × (r : Refusal) × StandsForProblem problem options.replaces_lets script × IsFirstProofFault proof (settings_of options) script r)
    ⊎ ((v : Verdict) × IsCheckedAs problem options proof v))
