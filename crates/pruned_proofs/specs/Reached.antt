-- Public. Which commands of a proof its refutation rests on: those that are reached from the step with the empty clause.
use Rattle.std.specs.Prelude.{◌≡◌, ◌≢◌, ◌<◌, ◌↔◌, ℕ, Bool, true, false, List, [], length, slice_index_or, Some, Contains}
use Rattle.rule_model.specs.Proofs.{ProofItems}
use Rattle.rule_model.specs.Reading.{clause_at, premises_at, scope_at, closes_at, last_inside_at}
use Rattle.rule_model.specs.Scopes.{commands_in}
use Rattle.rule_model.specs.Subproof.{IsAssumeIn}

-- the first command of the outermost scope with the empty clause
pub record IsFirstEmpty {V T : Type 0} (proof : ProofItems V T) (e : ℕ) : Type 0 where
  pub within : e < commands_in proof
  pub scope : scope_at proof e ≡ 0
  pub empty : clause_at proof e ≡ []
  pub first : (i : ℕ) → i < e → scope_at proof i ≡ 0 → clause_at proof i ≢ []

-- A command rests on its premises. A step that closes a scope rests on the last command that stands directly in it, and on
-- every assume that does.
pub data RestsOn {V T : Type 0} (proof : ProofItems V T) (i j : ℕ) : Type 0 where
  on_premise : Contains (premises_at proof i) j → RestsOn proof i j
  on_last : (k : ℕ) → closes_at proof i ≡ Some k → last_inside_at proof k ≡ Some j → RestsOn proof i j
  on_assume : (k : ℕ) → closes_at proof i ≡ Some k → IsAssumeIn proof i k j → RestsOn proof i j

-- the least set of commands that has the command of an index and, with a command, those on which it rests
pub data IsReached {V T : Type 0} (proof : ProofItems V T) (from : ℕ) : ℕ → Type 0 where
  start : IsReached proof from from
  further : (i j : ℕ) → IsReached proof from i → RestsOn proof i j → IsReached proof from j

-- one truth value for each command: whether the command is kept; what is past the end is not
abbrev pub is_kept : List Bool → ℕ → Bool
is_kept marks i = slice_index_or marks i false

-- the marks are those of the commands that are reached
pub record AreReachedMarks {V T : Type 0} (proof : ProofItems V T) (from : ℕ) (marks : List Bool) : Type 0 where
  pub count : length marks ≡ commands_in proof
  pub each : (i : ℕ) → is_kept marks i ≡ true ↔ IsReached proof from i
