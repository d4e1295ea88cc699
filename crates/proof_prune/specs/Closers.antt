-- Private. The steps that close the scopes of a proof, by the scope's number.
use Rattle.std.specs.Prelude.{◌≡◌, ◌<◌, ℕ, List, slice_get, Some}
use Rattle.rule_model.specs.Proofs.{ProofItems}
use Rattle.rule_model.specs.Reading.{closes_at}

-- the index of the step that closes a scope stands at the scope's number
abbrev pub AreClosers : ProofItems ℕ ℕ → List ℕ → Type 0
AreClosers proof closers = (i k : ℕ) → closes_at proof i ≡ Some k → slice_get closers k ≡ Some i

-- so far for the steps before an index
abbrev pub AreClosersTo : ProofItems ℕ ℕ → ℕ → List ℕ → Type 0
AreClosersTo proof i closers = (j k : ℕ) → j < i → closes_at proof j ≡ Some k → slice_get closers k ≡ Some j
