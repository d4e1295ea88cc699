-- Private. How far the commands of a proof are marked, from its end on.
use Rattle.std.specs.Prelude.{◌≡◌, ◌≤◌, ◌⊎◌, ℕ, Bool, true, List, length, Some, Contains}
use Rattle.rule_model.specs.Proofs.{ProofItems}
use Rattle.rule_model.specs.Reading.{premises_at, closes_at, last_inside_at}
use Rattle.rule_model.specs.Scopes.{commands_in}
use Rattle.rule_model.specs.Subproof.{IsAssumeIn}
use Rattle.pruned_proofs.specs.Reached.{is_kept, IsReached}

-- numbers are marked that these marks lack: those of which this holds
pub record MarksMore (old new : List Bool) (P : ℕ → Type 0) : Type 0 where
  pub stays : (j : ℕ) → is_kept old j ≡ true → is_kept new j ≡ true
  pub added : (j : ℕ) → P j → is_kept new j ≡ true
  pub only : (j : ℕ) → is_kept new j ≡ true → (is_kept old j ≡ true) ⊎ P j

-- a command is a premise of another, or the last one directly in the scope that it closes
abbrev pub IsLastUnder : ProofItems ℕ ℕ → ℕ → ℕ → Type 0
IsLastUnder proof i j = (k : ℕ) × (closes_at proof i ≡ Some k) × (last_inside_at proof k ≡ Some j)

abbrev pub IsDirectlyUnder : ProofItems ℕ ℕ → ℕ → ℕ → Type 0
IsDirectlyUnder proof i j = Contains (premises_at proof i) j ⊎ IsLastUnder proof i j

-- a command that is reached closes the scope, from this index on
pub record IsClosedBy (proof : ProofItems ℕ ℕ) (from i k : ℕ) : Type 0 where
  pub closer : ℕ
  pub behind : i ≤ closer
  pub reached : IsReached proof from closer
  pub closes : closes_at proof closer ≡ Some k

-- Only what is reached is marked. Of the commands from this index on, what the marked ones rest on is marked: of the assumes,
-- those from this index on.
pub record AreMarksFrom (proof : ProofItems ℕ ℕ) (from i : ℕ) (commands scopes : List Bool) : Type 0 where
  pub count : length commands ≡ commands_in proof
  pub start_marked : is_kept commands from ≡ true
  pub reached : (j : ℕ) → is_kept commands j ≡ true → IsReached proof from j
  pub closed : (k : ℕ) → is_kept scopes k ≡ true → IsClosedBy proof from i k
  pub under : (c j : ℕ) → i ≤ c → is_kept commands c ≡ true → IsDirectlyUnder proof c j → is_kept commands j ≡ true
  pub scope : (c k : ℕ) → i ≤ c → is_kept commands c ≡ true → closes_at proof c ≡ Some k → is_kept scopes k ≡ true
  pub assumes : (c k j : ℕ) → i ≤ j → is_kept commands c ≡ true → closes_at proof c ≡ Some k → IsAssumeIn proof c k j →
      is_kept commands j ≡ true
