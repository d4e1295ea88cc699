-- Public. The terms that stand in a problem and in a proof.
use Rattle.std.specs.Prelude.{ℕ, zero, suc, List, [], ◌++◌, map}
use Rattle.rule_model.specs.Proofs.{ProofItems}
use Rattle.rule_model.specs.Reading.{clause_at, bindings_at, scope_at}
use Rattle.rule_model.specs.Scopes.{commands_in}

-- the literals of the command of an index, and what the innermost anchor there binds
abbrev pub standing_at : {V T : Type 0} → ProofItems V T → ℕ → List T
standing_at {V} {T} proof i = clause_at proof i ++ map (λ (b : V × T). b.1) (bindings_at proof (scope_at proof i))

-- those of so many commands
abbrev pub standing_to : {V T : Type 0} → ProofItems V T → ℕ → List T
standing_to proof zero = []
standing_to proof (suc i) = standing_to proof i ++ standing_at proof i

-- the assertions, with those of all commands
abbrev pub standing_in : {V T : Type 0} → List T → ProofItems V T → List T
standing_in assertions proof = assertions ++ standing_to proof (commands_in proof)
