-- Public. What the statuses of a proof's commands are asked by, the flags and the problem's assertions; and what is said of
-- one step.
use Rattle.std.specs.Prelude.{◌≡◌, ◌⊎◌, ℕ, List, if◌then◌else◌}
use Rattle.sym_table.specs.Table.{Table}
use Rattle.term_model.specs.Terms.{Var, Term}
use Rattle.term_pool.specs.Views.{TermsView, ReferToAll}
use Rattle.rule_model.specs.declared.rules.Mode.{Mode}
use Rattle.rule_model.specs.declared.statuses.Status.{Status}
use Rattle.rule_model.specs.Conditions.{IsMetAt, IsTooWideAt}
use Rattle.rule_model.specs.Proofs.{ProofItems}
use Rattle.rule_model.specs.Statuses.{Checking, AreStatuses}
use Rattle.rule_model.specs.declared.rules.Rule.{Rule}
use Rattle.rule_model.specs.Reading.{rule_at}
use Rattle.term_parts.specs.Judging.{Tells}
use Rattle.term_parts.specs.declared.answers.Answer.{Answer}
use Rattle.proof_store.specs.Meaning.{StandForItems}
use Rattle.proof_contexts.specs.OpenAnchors.{IsAnchorImage}
use Rattle.term_pool.specs.Placing.{LacksCellOf, PlacesCellsOf}
use Rattle.rules_refl.specs.Sides.{IsSideOf}
use Rattle.term_reader.specs.declared.flags.Flags.{Flags}

-- the mode that flags ask for
abbrev pub mode_of : Flags → Mode
mode_of flags = if flags.strict then Mode.Strict else Mode.Check

-- the check that flags ask for: in their mode, a step by an unknown rule being a hole where they say so
abbrev pub checking : Flags → List Term → Checking
checking flags assertions = record {
  mode = mode_of flags;
  unknown_are_holes = flags.ignore_unknown;
  assertions = assertions;
}

-- the answer to the step at an index of the proof for which the references stand: its numbers are too wide, or else its
-- condition is met or not
abbrev pub TellsMet : Mode → Table → TermsView → ProofItems ℕ ℕ → ℕ → Answer → Type 0
TellsMet mode s v refs i answer =
    (proof : ProofItems Var Term) → StandForItems s v refs proof → Tells answer (IsTooWideAt mode proof i) (IsMetAt mode proof i)

-- the references stand for assertions
pub record AreAsserted (s : Table) (v : TermsView) (refs : List ℕ) : Type 0 where
  pub assertions : List Term
  pub refer : ReferToAll s v refs assertions

-- The statuses of the commands of the proof for which the references stand, with the assertions for which they stand.
abbrev pub AreStatusesOf : Flags → Table → TermsView → List ℕ → ProofItems ℕ ℕ → List Status → Type 0
AreStatusesOf flags s v asserted refs statuses =
    (proof : ProofItems Var Term) (assertions : List Term) → StandForItems s v refs proof → ReferToAll s v asserted assertions →
    AreStatuses (checking flags assertions) proof statuses

-- the term is a side of a step by refl after substitution
pub record IsSideOfSome (proof : ProofItems Var Term) (t : Term) : Type 0 where
  pub index : ℕ
  pub refl : rule_at proof index ≡ Rule.Refl
  pub side : IsSideOf proof index t

-- the term is such a side, or the image of a variable that an anchor binds
abbrev pub IsPlacedOf : ProofItems Var Term → Term → Type 0
IsPlacedOf proof t = IsAnchorImage proof t ⊎ IsSideOfSome proof t

-- only cells of such terms were placed, of the proof for which the references stand
abbrev pub PlacesOnly : Table → TermsView → TermsView → ProofItems ℕ ℕ → Type 0
PlacesOnly s old new refs =
    (proof : ProofItems Var Term) → StandForItems s old refs proof → PlacesCellsOf s old.pass new.pass (IsPlacedOf proof)

-- there was no room for a cell of such a term of the proof for which the references stand
abbrev pub LacksRoomForPlaced : Table → TermsView → TermsView → ProofItems ℕ ℕ → Type 0
LacksRoomForPlaced s old new refs =
    (proof : ProofItems Var Term) → StandForItems s old refs proof → LacksCellOf s new.pass (IsPlacedOf proof)
