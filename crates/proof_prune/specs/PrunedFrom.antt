-- Public. What pruning returns.
use Rattle.std.specs.Prelude.{◌≡◌, ℕ, Bool, List}
use Rattle.rule_model.specs.Proofs.{ProofItems}
use Rattle.pruned_proofs.specs.Pruned.{pruned}
use Rattle.pruned_proofs.specs.Reached.{AreReachedMarks}

-- the proof of the commands that are reached from the command of an index
pub record IsPrunedFrom (proof : ProofItems ℕ ℕ) (from : ℕ) (new : ProofItems ℕ ℕ) : Type 0 where
  pub marks : List Bool
  pub reached : AreReachedMarks proof from marks
  pub left : new ≡ pruned marks proof
