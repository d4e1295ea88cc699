-- Private. The terms of the assumes of the outermost scope that are kept.
use Rattle.std.specs.Prelude.{◌<◌, ℕ, Bool, List, Contains}
use Rattle.rule_model.specs.Proofs.{ProofItems}
use Rattle.pruned_proofs.specs.Core.{IsKeptAssume}

-- such an assume has this term
pub record IsWantedAt (marks : List Bool) (proof : ProofItems ℕ ℕ) (r : ℕ) : Type 0 where
  pub index : ℕ
  pub assume : IsKeptAssume marks proof index r

-- the list has the terms of those with indices below i
pub record AreWantedTo (marks : List Bool) (proof : ProofItems ℕ ℕ) (i : ℕ) (list : List ℕ) : Type 0 where
  pub only : (r : ℕ) → Contains list r → IsWantedAt marks proof r
  pub each : (index r : ℕ) → index < i → IsKeptAssume marks proof index r → Contains list r
