-- Public. The words of the rules of a proof's holes.
use Rattle.std.specs.Prelude.{ℕ, suc, List, [], ◌∷◌}
use Rattle.rule_model.specs.declared.statuses.Status.{Status}
use Rattle.rule_model.specs.Proofs.{ProofItems}
use Rattle.rule_model.specs.Reading.{rule_name_at}

-- those of the holes among the commands from an index on, in file order, where these are their statuses
abbrev pub hole_words_from : {V T : Type 0} → ProofItems V T → ℕ → List Status → List (List ℕ)
hole_words_from proof i [] = []
hole_words_from proof i (Status.Hole ∷ statuses) = rule_name_at proof i ∷ hole_words_from proof (suc i) statuses
hole_words_from proof i (_ ∷ statuses) = hole_words_from proof (suc i) statuses
