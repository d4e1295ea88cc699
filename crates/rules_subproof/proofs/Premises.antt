-- A premise is the index of a command.
use Rattle.std.proofs.Common.{◌≡◌, ℕ, ◌<◌, List, All, subst, sym}
use Rattle.rule_model.specs.Proofs.{ProofItems}
use Rattle.rule_model.specs.Reading.{premises_at}
use Rattle.rule_model.specs.Scopes.{commands_in}
use Rattle.rule_model.specs.WellFormed.{IsWellFormed}
use Rattle.rule_model.proofs.Standing.{premise_within}

pub premises_within : (proof : ProofItems ℕ ℕ) (i : ℕ) (js : List ℕ) → js ≡ premises_at proof i → IsWellFormed proof → i < commands_in proof → All (λ j. j < commands_in proof) js
premises_within proof i js same formed h =
    subst (All (λ j. j < commands_in proof)) (sym same) (λ k d within. premise_within proof i k d formed h within)
