-- Public. What contracts see of a step that is added to a proof.
use Rattle.std.specs.Prelude.{ℕ, Bool, List}
use Rattle.rule_model.specs.declared.rules.Rule.{Rule}
use Rattle.proof_store.specs.declared.added.Link.{Link}

pub record AddedStep : Type 0 where
  pub rule : Rule
  pub clause : List ℕ
  pub premises : List Link
  pub pivots : List (ℕ × Bool)
