-- Public. The holes of a proof: the commands that the check leaves open.
use Rattle.std.specs.Prelude.{ℕ, suc, List, [], ◌∷◌}
use Rattle.rule_model.specs.declared.statuses.Status.{Status}
use Rattle.rule_model.specs.Proofs.{ProofItems}
use Rattle.rule_model.specs.Reading.{id_at, rule_name_at}
use Rattle.judged_texts.specs.declared.judgement.Hole as code

-- a hole by its command's id and the word of its rule
pub record Hole : Type 0 where
  pub id : List ℕ
  pub rule : List ℕ

-- The holes among the commands from an index on, in file order, where these are their statuses.
abbrev pub holes_from : {V T : Type 0} → ProofItems V T → ℕ → List Status → List Hole
holes_from proof i [] = []
holes_from proof i (Status.Hole ∷ statuses) =
    record { id = id_at proof i; rule = rule_name_at proof i } ∷ holes_from proof (suc i) statuses
holes_from proof i (_ ∷ statuses) = holes_from proof (suc i) statuses

-- a hole of the code
abbrev pub told_hole : code.Hole → Hole
told_hole h = record { id = h.id.items; rule = h.rule.items }
