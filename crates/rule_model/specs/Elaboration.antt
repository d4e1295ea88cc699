-- Public. What an elaboration of a proof is: a proof for the same assertions that keeps each command, with its clause, its
-- scope and its order, and in which every command meets its condition in strict mode (Alethe specification, "Elaboration").
use Rattle.std.specs.Prelude.{◌≡◌, ◌≤◌, ◌+◌, ◌*◌, ℕ, Bool, List, [], ◌∷◌, slice_get, Some, All}
use Rattle.std.specs.List.{AllZip}
use Rattle.term_model.specs.Heights.{height}
use Rattle.term_model.specs.Terms.{Var, Term}
use Rattle.rule_model.specs.declared.kinds.Kind.{Kind}
use Rattle.rule_model.specs.declared.rules.Mode.{Mode}
use Rattle.rule_model.specs.declared.statuses.Status.{Status}
use Rattle.rule_model.specs.Columns.{checking_in}
use Rattle.rule_model.specs.Commands.{Line, lines_in}
use Rattle.rule_model.specs.Contexts.{images}
use Rattle.rule_model.specs.Judged.{open_anchors}
use Rattle.rule_model.specs.Proofs.{Step, ProofItems, no_items, with_assume, with_step, with_subproof}
use Rattle.rule_model.specs.Reading.{clause_of, pivots_of}
use Rattle.rule_model.specs.Scopes.{Nesting, outermost, inner}
use Rattle.rule_model.specs.Statuses.{Checking, kind_of_rule, AreStatuses, Passes}
use Rattle.rule_model.specs.Truth.{IsWellSortedProof}
use Rattle.rule_model.specs.Visibility.{assumes_in}
use Rattle.rule_model.specs.WellFormed.{IsWellFormed}

-- the step's rule leaves a hole
abbrev pub IsHole : {T : Type 0} → Checking → Step T → Type 0
IsHole c s = kind_of_rule c s.rule ≡ Kind.Hole

-- Further items stand behind those of a scope: steps that close nothing and are no holes, and in the outermost scope assumes.
pub data Adds (c : Checking) {V T : Type 0} : Nesting V T → ProofItems V T → ProofItems V T → Type 0 where
  none_added : (nesting : Nesting V T) (items : ProofItems V T) → Adds c nesting items items
  step_added : (nesting : Nesting V T) (items more : ProofItems V T) (s : Step T) →
      Adds c nesting items more → ¬ IsHole c s → Adds c nesting items (with_step more s)
  assume_added : (items more : ProofItems V T) (id : List ℕ) (t : T) →
      Adds c outermost items more → Adds c outermost items (with_assume more id t)

-- A step in the place of another has its clause, and a hole stays one, with its rule's word, and nothing else becomes one. This
-- leaves its rule, its premises, its pivots, its coefficients and what it discharges free.
pub record TakesPlace (c : Checking) {T : Type 0} (old new : Step T) : Type 0 where
  pub clause : new.clause ≡ old.clause
  pub hole : IsHole c old → IsHole c new × (new.rule_name ≡ old.rule_name)
  pub no_hole : IsHole c new → IsHole c old

-- two indices stand at the same place of their lists
pub record IsSamePlace (olds news : List ℕ) (old new : ℕ) : Type 0 where
  pub place : ℕ
  pub old_is : slice_get olds place ≡ Some old
  pub new_is : slice_get news place ≡ Some new

-- Each item of a scope has one in its place, in order, and the last the last. Before it others may be added. An assume of
-- the outermost scope may become a step; every other assume stays one, and inside a subproof no other is added. A subproof
-- binds the same, and its closing step discharges the same assumes, counted among those that stand directly in it.
pub data Keeps (c : Checking) {V T : Type 0} : Nesting V T → ProofItems V T → Nesting V T → ProofItems V T → Type 0 where
  nothing_kept : (around new_around : Nesting V T) → Keeps c around no_items new_around no_items
  assume_kept : (around new_around : Nesting V T) (items kept more : ProofItems V T) (id new_id : List ℕ) (t : T) →
      Keeps c around items new_around kept → Adds c new_around kept more →
      Keeps c around (with_assume items id t) new_around (with_assume more new_id t)
  assume_derived : (items kept more : ProofItems V T) (id : List ℕ) (t : T) (s : Step T) →
      Keeps c outermost items outermost kept → Adds c outermost kept more →
      s.clause ≡ t ∷ [] → ¬ IsHole c s →
      Keeps c outermost (with_assume items id t) outermost (with_step more s)
  step_kept : (around new_around : Nesting V T) (items kept more : ProofItems V T) (old new : Step T) →
      Keeps c around items new_around kept → Adds c new_around kept more → TakesPlace c old new →
      Keeps c around (with_step items old) new_around (with_step more new)
  subproof_kept : (around new_around : Nesting V T) (items kept more inner_items inner_kept : ProofItems V T)
      (bindings : List (V × T)) (old new : Step T) →
      Keeps c around items new_around kept → Adds c new_around kept more →
      Keeps c (inner around items bindings old) inner_items (inner new_around more bindings new) inner_kept →
      TakesPlace c old new →
      AllZip
      (IsSamePlace (assumes_in (inner around items bindings old) inner_items) (assumes_in (inner new_around more bindings new) inner_kept))
      old.discharged new.discharged →
      Keeps c around (with_subproof items bindings inner_items old) new_around (with_subproof more bindings inner_kept new)

-- No literal and no pivot of the command is higher, and no image of a variable that an anchor binds which is open at it. An
-- anchor's own terms are no higher than their images.
pub record IsLowLine (h : ℕ) (line : Line Var Term) : Type 0 where
  pub clause : All (λ t. height t ≤ h) (clause_of line.command)
  pub pivots : All (λ (p : Term × Bool). height p.0 ≤ h) (pivots_of line.command)
  pub images : All (λ (b : Var × Term). height b.1 ≤ h) (images (open_anchors line.scope.nesting))

-- no term of the proof is higher
abbrev pub IsLowProof : ℕ → ProofItems Var Term → Type 0
IsLowProof h proof = All (IsLowLine h) (lines_in outermost proof)

-- A proof is an elaboration of another for the same assertions. It is well formed, and well sorted where the other is. Its
-- strict statuses all are Ok or holes, and it keeps every command. Where no assertion and no term of the other is higher
-- than h, none of its terms is higher than 2 * h + 10.
pub record IsElaboration (c : Checking) (old new : ProofItems Var Term) : Type 0 where
  pub formed : IsWellFormed new
  pub sorted : IsWellSortedProof old → IsWellSortedProof new
  pub statuses : List Status
  pub are : AreStatuses (checking_in Mode.Strict c) new statuses
  pub pass : All Passes statuses
  pub kept : Keeps c outermost old outermost new
  pub low : (h : ℕ) → All (λ t. height t ≤ h) c.assertions → IsLowProof h old → IsLowProof (2 * h + 10) new
